use Rattle.std.proofs.Common.{◌≡◌, ◌+◌, ◌++◌, take}
use Rattle.std.specs.Prelude.{vec_len, vec_capacity}
use Rattle.block_walk.proofs.fetching.push_key.Given as goal

abbrev pub invariant-loop-value : goal.invariant-loop-value
invariant-loop-value l = record {
  items : l.values.items ≡ l.initial.values.items ++ take l.value-index l.key;
  len : vec_len l.values ≡ vec_len l.initial.values + l.value-index;
  room : vec_capacity l.values ≡ vec_capacity l.initial.values;
}
