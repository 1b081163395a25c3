use Rattle.std.proofs.Common.{length}
use Rattle.reference_coverage.proofs.numbers.+last_size.Given as goal

abbrev pub decreases-last_size : goal.decreases-last_size
decreases-last_size l = length l.steps.now
