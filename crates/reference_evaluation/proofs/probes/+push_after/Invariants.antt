use Rattle.std.proofs.Common.{length}
use Rattle.reference_evaluation.proofs.probes.+push_after.Given as goal

abbrev pub decreases-push_after : goal.decreases-push_after
decreases-push_after l = length l.steps.now
