use Rattle.std.proofs.Common.{length}
use Rattle.reference_normal_form.proofs.normal.+position.Given as goal

abbrev pub decreases-position : goal.decreases-position
decreases-position l = length l.groups.now
