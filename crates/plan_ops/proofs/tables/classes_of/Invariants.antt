use Rattle.std.proofs.Common.{◌≡◌, ◌≤◌}
use Rattle.std.specs.Prelude.{vec_len, vec_capacity}
use Rattle.std.specs.List.{filter, range_with_len}
use Rattle.beas_core.specs.Coverage.{has}
use Rattle.plan_ops.specs.Over.{set_of}
use Rattle.plan_ops.proofs.tables.classes_of.Given as goal

abbrev pub invariant-loop-class : goal.invariant-loop-class
invariant-loop-class l = record {
  items : l.found.items ≡ filter (has (set_of l.block l.list)) (range_with_len 0 l.class);
  len : vec_len l.found ≤ l.class;
  room : vec_capacity l.found ≡ l.block.count;
}
