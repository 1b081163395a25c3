use Rattle.std.proofs.Common.{◌≡◌, ◌+◌, ◌++◌, map, take}
use Rattle.std.specs.Prelude.{vec_len, vec_capacity}
use Rattle.beas_core.specs.Coverage.{class_at}
use Rattle.plan_ops.specs.Places.{column_of}
use Rattle.plan_ops.proofs.places.push_columns_in.Given as goal

abbrev pub invariant-loop-column : goal.invariant-loop-column
invariant-loop-column l = record {
  items : l.found.items ≡ l.initial.found.items ++ map (λ c. column_of l.classes (class_at l.block l.atom c)) (take l.column-index l.columns);
  len : vec_len l.found ≡ vec_len l.initial.found + l.column-index;
  room : vec_capacity l.found ≡ vec_capacity l.initial.found;
}
