use Rattle.std.proofs.Common.{◌≡◌, take}
use Rattle.plan_ops.specs.Over.{set_of}
use Rattle.plan_ops.proofs.MeetFacts.{kept_by}
use Rattle.plan_ops.proofs.keeping.keep_all.Given as goal

abbrev pub invariant-loop-comparison : goal.invariant-loop-comparison
invariant-loop-comparison l =
    l.rows ≡ kept_by l.block (set_of l.block l.classes) (take l.comparison-index l.block.comparisons) l.initial.rows
