use Rattle.std.proofs.Common.{◌≡◌, ◌+◌, ◌++◌}
use Rattle.std.specs.VecDeque.{deque_len}
use Rattle.beas_core.specs.Full.{set_union}
use Rattle.beas_core.specs.Order.{row_cmp}
use Rattle.beas_core.specs.Sets.{IsInOrder}
use Rattle.plan_ops.proofs.sets.unite.Given as goal

abbrev pub invariant-loop-row : goal.invariant-loop-row
invariant-loop-row l = record {
  left : IsInOrder row_cmp l.left.items;
  right : IsInOrder row_cmp l.right.items;
  all : l.rows ++ set_union l.left.items l.right.items ≡ set_union l.fn.left l.fn.right;
}

abbrev pub decreases-loop-row : goal.decreases-loop-row
decreases-loop-row l = deque_len l.left + deque_len l.right
