use Rattle.std.proofs.Common.{◌≡◌}
use Rattle.plan_builder.proofs.PreparationFacts.{uncovered_from}
use Rattle.plan_builder.proofs.uncovered.first_lacking.Given as goal

abbrev pub invariant-loop-place : goal.invariant-loop-place
invariant-loop-place l = uncovered_from l.accesses l.blocks 0 ≡ uncovered_from l.accesses l.blocks l.place
