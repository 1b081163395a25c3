use Rattle.std.proofs.Common.{length}
use Rattle.reference_evaluation.proofs.bindings.+copy_of_class.Given as goal

abbrev pub decreases-copy_of_class : goal.decreases-copy_of_class
decreases-copy_of_class l = length l.bindings.now
