use Rattle.std.proofs.Common.{length}
use Rattle.reference_coverage.proofs.numbers.+announced_from.Given as goal

abbrev pub decreases-announced_from : goal.decreases-announced_from
decreases-announced_from l = length l.steps.now
