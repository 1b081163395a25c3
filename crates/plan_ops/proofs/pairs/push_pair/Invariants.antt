use Rattle.std.proofs.Common.{◌≡◌, ◌≤◌, ◌+◌, ◌++◌, take, drop, length}
use Rattle.std.specs.Prelude.{vec_len, vec_capacity}
use Rattle.plan_ops.specs.Joins.{joined_by}
use Rattle.plan_ops.proofs.pairs.push_pair.Given as goal

abbrev pub invariant-loop-place : goal.invariant-loop-place
invariant-loop-place l = record {
  items : l.values.items ≡ l.fn.values.items
      ++ joined_by (take l.place-index l.join.sources.items) (take l.width (drop l.from l.fn.values.items)) l.tuple;
  len : vec_len l.values ≡ vec_len l.fn.values + l.place-index;
  room : vec_len l.fn.values + length l.join.sources.items ≤ vec_capacity l.values;
}
