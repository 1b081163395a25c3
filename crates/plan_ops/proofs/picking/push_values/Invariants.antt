use Rattle.std.proofs.Common.{◌≡◌, ◌+◌, ◌++◌, take}
use Rattle.std.specs.Prelude.{vec_len, vec_capacity}
use Rattle.beas_core.specs.Groups.{project}
use Rattle.plan_ops.proofs.picking.push_values.Given as goal

abbrev pub invariant-loop-column : goal.invariant-loop-column
invariant-loop-column l = record {
  items : l.values.items ≡ l.initial.values.items ++ project (take l.column-index l.columns) l.row;
  len : vec_len l.values ≡ vec_len l.initial.values + l.column-index;
  room : vec_capacity l.values ≡ vec_capacity l.initial.values;
}
