use Rattle.std.proofs.Common.{length}
use Rattle.session.proofs.grouping.+first_ungrouped.Given as goal

abbrev pub decreases-first_ungrouped : goal.decreases-first_ungrouped
decreases-first_ungrouped l = length l.items.now
