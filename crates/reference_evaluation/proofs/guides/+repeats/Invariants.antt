use Rattle.std.proofs.Common.{length}
use Rattle.reference_evaluation.proofs.guides.+repeats.Given as goal

abbrev pub decreases-repeats : goal.decreases-repeats
decreases-repeats l = length l.output.now
