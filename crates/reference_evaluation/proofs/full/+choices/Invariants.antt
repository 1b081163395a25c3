use Rattle.std.proofs.Common.{length}
use Rattle.reference_evaluation.proofs.full.+choices.Given as goal

abbrev pub decreases-choices : goal.decreases-choices
decreases-choices l = length l.atoms.now
