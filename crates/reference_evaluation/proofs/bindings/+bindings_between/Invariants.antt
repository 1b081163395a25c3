use Rattle.std.proofs.Common.{length}
use Rattle.reference_evaluation.proofs.bindings.+bindings_between.Given as goal

abbrev pub decreases-bindings_between : goal.decreases-bindings_between
decreases-bindings_between l = length l.classes.now
