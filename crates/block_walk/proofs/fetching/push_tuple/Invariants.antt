use Rattle.std.proofs.Common.{◌≡◌, ◌≤◌, ◌+◌, ◌++◌, length, take, [], get_or}
use Rattle.std.specs.Prelude.{vec_len, vec_capacity}
use Rattle.block_walk.proofs.fetching.push_tuple.Given as goal

abbrev pub invariant-loop-at : goal.invariant-loop-at
invariant-loop-at g l = record {
  items : l.values.items ≡ l.fn.values.items ++ take l.at (get_or (g.P.AccessPort.members l.port l.hits) l.i []);
  len : vec_len l.values ≡ vec_len l.fn.values + l.at;
  room : vec_len l.fn.values + length l.columns ≤ vec_capacity l.values;
}
