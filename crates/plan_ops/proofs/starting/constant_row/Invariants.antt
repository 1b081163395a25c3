use Rattle.std.proofs.Common.{◌≡◌, map, take, length}
use Rattle.std.specs.Prelude.{vec_len, vec_capacity}
use Rattle.beas_core.specs.Valuations.{value_of}
use Rattle.plan_ops.proofs.starting.constant_row.Given as goal

abbrev pub invariant-loop-class : goal.invariant-loop-class
invariant-loop-class l = record {
  items : l.row.items ≡ map (value_of l.constants) (take l.class-index l.classes);
  len : vec_len l.row ≡ l.class-index;
  room : vec_capacity l.row ≡ length l.classes;
}
