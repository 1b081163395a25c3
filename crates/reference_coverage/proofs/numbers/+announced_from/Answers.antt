use Rattle.std.proofs.Common.{ℕ, subst, sym}
use Rattle.reference_coverage.specs.Counts.{Counts}
use Rattle.reference_coverage.proofs.NumberFacts.{announced_first}
use Rattle.reference_coverage.proofs.numbers.+announced_from.Goals as goal

pub returns-in-len1-up : goal.returns-in-len1-up
returns-in-len1-up m c n h =
    subst (λ (reads : ℕ). Counts c.sum.result reads) (sym (announced_first c.args.accesses.now c.args.steps.now n _ c.in-len1-up.len_at_least))
    (c.sum.ensures _ _ (c.cost_of-cost.ensures n h) (c.announced_from-later.ensures _ (c.size_after.ensures n h)))
