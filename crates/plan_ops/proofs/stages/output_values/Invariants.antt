use Rattle.std.proofs.Common.{◌≡◌, take, length}
use Rattle.std.specs.Prelude.{vec_len, vec_capacity}
use Rattle.beas_core.specs.Groups.{project}
use Rattle.plan_ops.specs.Joins.{joined_by}
use Rattle.plan_ops.proofs.stages.output_values.Given as goal

abbrev pub invariant-loop-column : goal.invariant-loop-column
invariant-loop-column l = record {
  items : l.values.items ≡ project (take l.column-index l.columns) (joined_by l.join.sources.items l.row l.tuple);
  len : vec_len l.values ≡ l.column-index;
  room : vec_capacity l.values ≡ length l.columns;
}
