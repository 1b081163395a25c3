use Rattle.std.proofs.Common.{◌≡◌, ◌+◌, ◌++◌, take}
use Rattle.std.specs.Prelude.{vec_len, vec_capacity}
use Rattle.plan_ops.proofs.joining.push_columns.Given as goal

abbrev pub invariant-loop-column : goal.invariant-loop-column
invariant-loop-column l = record {
  items : l.to.items ≡ l.initial.to.items ++ take l.column-index l.columns;
  len : vec_len l.to ≡ vec_len l.initial.to + l.column-index;
  room : vec_capacity l.to ≡ vec_capacity l.initial.to;
}
