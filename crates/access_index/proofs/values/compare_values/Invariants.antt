use Rattle.std.proofs.Common.{◌≡◌, ◌≤◌, length, drop}
use Rattle.beas_core.specs.Order.{row_cmp}
use Rattle.access_index.proofs.values.compare_values.Given as goal

abbrev pub invariant-loop-i : goal.invariant-loop-i
invariant-loop-i g l = record {
  within : l.i ≤ length (g.W.Values.list l.right);
  rest : row_cmp l.left (g.W.Values.list l.right) ≡ row_cmp (drop l.i l.left) (drop l.i (g.W.Values.list l.right));
}
