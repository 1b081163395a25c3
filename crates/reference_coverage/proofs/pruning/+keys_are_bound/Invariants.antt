use Rattle.std.proofs.Common.{length}
use Rattle.reference_coverage.proofs.pruning.+keys_are_bound.Given as goal

abbrev pub decreases-keys_are_bound : goal.decreases-keys_are_bound
decreases-keys_are_bound l = length l.steps.now
