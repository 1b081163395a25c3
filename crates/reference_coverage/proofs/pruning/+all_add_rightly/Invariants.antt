use Rattle.std.proofs.Common.{length}
use Rattle.reference_coverage.proofs.pruning.+all_add_rightly.Given as goal

abbrev pub decreases-all_add_rightly : goal.decreases-all_add_rightly
decreases-all_add_rightly l = length l.steps.now
