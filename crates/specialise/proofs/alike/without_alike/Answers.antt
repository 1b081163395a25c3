use Rattle.std.proofs.Common.{◌≡◌, ◌++◌, ◌∷◌, [], ◌⊎◌, subst, sym}
use Rattle.beas_core.specs.declared.schema.Access.{Access}
use Rattle.specialise.specs.Alike.{IsStoodFor, StandFor}
use Rattle.specialise.proofs.Repeated.{stood_all, stood_more, stood_none}
use Rattle.specialise.proofs.alike.without_alike.Goals as goal

pub loop-access-init : goal.loop-access-init
loop-access-init c = subst (λ few. StandFor few []) (sym c.new-few.ensures) stood_none

pub loop-access-preserved : goal.loop-access-preserved
loop-access-preserved c =
    let few = c.loop-access.few in
    let new = c.push_unlike.new.few in
    stood_more few c.args.accesses.now c.loop-access.access-index c.access-item.result c.loop-access-test.true c.loop-access.invariant new
    (subst (λ (x : Access). ((new ≡ few) × IsStoodFor few x) ⊎ (new ≡ few ++ x ∷ [])) c.access-item.is c.in_ok-push_unlike.ensures)

pub returns : goal.returns
returns c = stood_all c.loop-access.few c.args.accesses.now c.loop-access.access-index c.loop-access-test.false c.loop-access.invariant
