use Rattle.std.proofs.Common.{◌==◌, map, refl}
use Rattle.std.specs.List.{filter}
use Rattle.reference_normal_form.proofs.ListSteps.{numbered_more, numbered_end}
use Rattle.reference_coverage.proofs.access_uses.uses.Goals as goal

pub loop-number-preserved : goal.loop-number-preserved
loop-number-preserved c =
    numbered_more (λ a. map (λ access. record { atom = a.0; access = access }) (filter (λ access. access.table.0 == a.1.table.0) c.args.accesses.now))
    c.args.normal.now.atoms c.as_slice-atom-items.result.now c.as_slice-atom-items.ensures c.loop-number.number
    (record { table = record { 0 = 0 }; width = 0 }) _ _ _ c.loop-number-test.true c.loop-number.invariant c.in_ok-push_uses.ensures refl

pub returns : goal.returns
returns c =
    numbered_end (λ a. map (λ access. record { atom = a.0; access = access }) (filter (λ access. access.table.0 == a.1.table.0) c.args.accesses.now))
    c.args.normal.now.atoms c.as_slice-atom-items.result.now c.as_slice-atom-items.ensures c.loop-number.number _ c.loop-number-test.false
    c.loop-number.invariant
