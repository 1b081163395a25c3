use Rattle.std.proofs.Common.{length}
use Rattle.reference_coverage.proofs.derivations.+serving_steps.Given as goal

abbrev pub decreases-serving_steps : goal.decreases-serving_steps
decreases-serving_steps l = length l.atoms.now
