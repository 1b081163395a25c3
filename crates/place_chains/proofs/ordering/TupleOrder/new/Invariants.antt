use Rattle.std.proofs.Common.{◌≡◌}
use Rattle.std.specs.List.{range_with_len}
use Rattle.std.specs.Prelude.{vec_capacity, vec_len}
use Rattle.place_chains.proofs.ordering.TupleOrder.new.Given as goal

abbrev pub invariant-loop-number : goal.invariant-loop-number
invariant-loop-number g l = record {
  items : l.numbers.items ≡ range_with_len 0 l.number;
  len : vec_len l.numbers ≡ l.number;
  room : vec_capacity l.numbers ≡ l.count;
}
