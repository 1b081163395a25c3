use Rattle.std.proofs.Common.{suc, ◌-◌, length}
use Rattle.block_walk.specs.Ordered.{HasSame}
use Rattle.block_walk.proofs.ordered.reach.Given as goal

abbrev pub invariant-maps : goal.invariant-maps
invariant-maps l = HasSame l.fn.steps.items l.steps.items

abbrev pub decreases-maps : goal.decreases-maps
decreases-maps l = suc l.step - length l.steps.items
