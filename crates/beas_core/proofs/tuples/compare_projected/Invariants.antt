use Rattle.std.proofs.Common.{◌≡◌, ◌≤◌, drop, length}
use Rattle.beas_core.specs.Order.{row_cmp}
use Rattle.beas_core.specs.Groups.{project}
use Rattle.beas_core.proofs.tuples.compare_projected.Given as goal

-- what is left on both sides compares as the whole
abbrev pub invariant-loop-at : goal.invariant-loop-at
invariant-loop-at l = record {
  within : l.at ≤ length l.tuple;
  same : row_cmp l.tuple (project l.columns l.row) ≡ row_cmp (drop l.at l.tuple) (project (drop l.at l.columns) l.row);
}
