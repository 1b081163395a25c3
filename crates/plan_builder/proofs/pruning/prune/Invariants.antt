use Rattle.std.proofs.Common.{◌≡◌, ◌≤◌, length, map}
use Rattle.attribute_closure.specs.Uses.{as_use}
use Rattle.plan_builder.specs.Fronts.{IsKept}
use Rattle.plan_builder.specs.Trials.{uses_pruned, uses_pruned_below}
use Rattle.plan_builder.proofs.pruning.prune.Given as goal

abbrev pub invariant-loop-place : goal.invariant-loop-place
invariant-loop-place l = record {
  left : uses_pruned l.block l.start (map as_use l.fn.uses) ≡ uses_pruned_below l.block l.start l.place (map as_use l.kept.uses);
  there : l.place ≤ length l.kept.uses;
  kept : IsKept l.block l.start l.kept;
}

abbrev pub decreases-loop-place : goal.decreases-loop-place
decreases-loop-place l = l.place
