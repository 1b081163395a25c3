use Rattle.std.proofs.Common.{◌<◌, ◌∙◌, ap, sym, not, length, subst}
use Rattle.beas_core.specs.Coverage.{is_served}
use Rattle.attribute_closure.proofs.Searches.{find_range_there, find_range_more}
use Rattle.attribute_closure.proofs.reasons.unserved_atom.Goals as goal

pub returns-then-not-is_served_at : goal.returns-then-not-is_served_at
returns-then-not-is_served_at c =
    sym (find_range_there (λ atom. not (is_served c.args.block.now c.args.accesses.now c.args.set.now atom))
    (length c.args.block.now.atoms) c.loop-number.number
    (subst (λ n. c.loop-number.number < n) c.len-number-end.ensures c.loop-number-test.true) c.loop-number.invariant (ap not
    (sym c.is_served_at.ensures ∙ c.if-not-is_served_at.true)))

pub loop-number-preserved : goal.loop-number-preserved
loop-number-preserved c =
    find_range_more (λ atom. not (is_served c.args.block.now c.args.accesses.now c.args.set.now atom)) c.loop-number.number c.loop-number.invariant
    (ap not (sym c.is_served_at.ensures ∙ c.if-not-is_served_at.false))
