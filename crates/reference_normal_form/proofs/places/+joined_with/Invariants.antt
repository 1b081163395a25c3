use Rattle.std.proofs.Common.{length}
use Rattle.reference_normal_form.proofs.places.+joined_with.Given as goal

abbrev pub decreases-joined_with : goal.decreases-joined_with
decreases-joined_with l = length l.equalities.now
