use Rattle.std.proofs.Common.{length}
use Rattle.specialise.proofs.rules.+mask_where.Given as goal

abbrev pub decreases-mask_where : goal.decreases-mask_where
decreases-mask_where g l = length l.candidates.now
