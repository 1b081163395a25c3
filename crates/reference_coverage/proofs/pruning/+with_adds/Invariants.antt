use Rattle.std.proofs.Common.{length}
use Rattle.reference_coverage.proofs.pruning.+with_adds.Given as goal

abbrev pub decreases-with_adds : goal.decreases-with_adds
decreases-with_adds l = length l.steps.now
