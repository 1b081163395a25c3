use Rattle.std.proofs.Common.{length}
use Rattle.reference_coverage.proofs.tasks.+first_uncovered_from.Given as goal

abbrev pub decreases-first_uncovered_from : goal.decreases-first_uncovered_from
decreases-first_uncovered_from l = length l.tasks.now
