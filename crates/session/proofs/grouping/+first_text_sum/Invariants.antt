use Rattle.std.proofs.Common.{length}
use Rattle.session.proofs.grouping.+first_text_sum.Given as goal

abbrev pub decreases-first_text_sum : goal.decreases-first_text_sum
decreases-first_text_sum l = length l.items.now
