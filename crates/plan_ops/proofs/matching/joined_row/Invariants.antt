use Rattle.std.proofs.Common.{◌≡◌, take, [], get_or, length}
use Rattle.std.specs.Prelude.{vec_len, vec_capacity}
use Rattle.plan_ops.specs.Joins.{joined_by}
use Rattle.plan_ops.proofs.matching.joined_row.Given as goal

abbrev pub invariant-loop-place : goal.invariant-loop-place
invariant-loop-place g l = record {
  items : l.joined.items ≡ joined_by (take l.place-index l.join.sources.items) l.row (get_or (g.P.AccessPort.members l.port l.hits) l.i []);
  len : vec_len l.joined ≡ l.place-index;
  room : vec_capacity l.joined ≡ length l.join.sources.items;
}
