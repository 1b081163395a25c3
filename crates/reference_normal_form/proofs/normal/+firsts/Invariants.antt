use Rattle.std.proofs.Common.{length}
use Rattle.reference_normal_form.proofs.normal.+firsts.Given as goal

abbrev pub decreases-firsts : goal.decreases-firsts
decreases-firsts l = length l.places.now
