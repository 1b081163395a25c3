use Rattle.std.proofs.Common.{◌≡◌, ◌*◌, ◌∙◌, List, All, ap, sym, subst, arith, length}
use Rattle.beas_core.specs.Derivations.{access_in}
use Rattle.beas_core.specs.Types.{Row}
use Rattle.plan_ops.proofs.ExtendFacts.{keys_wide, keys_few}
use Rattle.plan_ops.proofs.extending.rows_by_key.Goals as goal

pub rows_by_keys-requires-clause-widths : goal.rows_by_keys-requires-clause-widths
rows_by_keys-requires-clause-widths g c =
    let n = length (access_in (g.P.AccessPort.accesses c.args.port.now) c.args.id).key in
    subst (All (λ (k : Row). length k ≡ n)) (sym (c.as_slice.ensures.value ∙ c.in_ok-keys.ensures))
    (keys_wide c.args.key.now c.args.rows.now n c.requires.width)

pub rows_by_keys-requires-clause-room : goal.rows_by_keys-requires-clause-room
rows_by_keys-requires-clause-room g c =
    let bound = (access_in (g.P.AccessPort.accesses c.args.port.now) c.args.id).bound in
    let few = keys_few c.args.key.now c.args.rows.now bound in
    let same = ap (λ (ks : List Row). length ks * bound) (c.as_slice.ensures.value ∙ c.in_ok-keys.ensures) in
    omega (arith, few, same, c.requires.room)
