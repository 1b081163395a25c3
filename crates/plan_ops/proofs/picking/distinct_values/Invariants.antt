use Rattle.std.proofs.Common.{◌≡◌, map, take, length}
use Rattle.std.specs.Prelude.{vec_len, vec_capacity}
use Rattle.beas_core.specs.Groups.{project}
use Rattle.plan_ops.proofs.picking.distinct_values.Given as goal

abbrev pub invariant-loop-row : goal.invariant-loop-row
invariant-loop-row l = record {
  items : l.found.items ≡ map (project l.columns) (take l.row-index l.rows);
  len : vec_len l.found ≡ l.row-index;
  room : vec_capacity l.found ≡ length l.rows;
}
