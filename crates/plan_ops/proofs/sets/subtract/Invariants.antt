use Rattle.std.specs.VecDeque.{deque_len}
use Rattle.beas_core.specs.Full.{set_difference}
use Rattle.plan_ops.proofs.MergeFacts.{Turn}
use Rattle.plan_ops.proofs.sets.subtract.Given as goal

-- the rows so far, with the difference of what is left, are the whole difference
abbrev pub invariant-loop-row : goal.invariant-loop-row
invariant-loop-row l = Turn l.rows l.left.items l.others (set_difference l.fn.left l.fn.right)

abbrev pub decreases-loop-row : goal.decreases-loop-row
decreases-loop-row l = deque_len l.left
