use Rattle.std.proofs.Common.{arith}
use Rattle.access_index.proofs.Places.{key_start, key_end, stretch_of, stretched}
use Rattle.access_index.proofs.bucket.group_in.Goals as goal

pub partition_point-from-requires : goal.partition_point-from-requires
partition_point-from-requires g c = key_start c.args.width (g.W.Values.list c.args.key.now) c.args.bucket.now c.requires

pub partition_point-end-requires : goal.partition_point-end-requires
partition_point-end-requires g c = key_end c.args.width (g.W.Values.list c.args.key.now) c.args.bucket.now c.requires

pub overflow_sub-result : goal.overflow_sub-result
overflow_sub-result g c =
    let s = stretch_of c.args.width (g.W.Values.list c.args.key.now) c.args.bucket.now c.requires in
    let o = s.ordered in
    omega (arith, o, c.partition_point-from.ensures, c.partition_point-end.ensures)

pub returns-clause-within : goal.returns-clause-within
returns-clause-within g c =
    let s = stretch_of c.args.width (g.W.Values.list c.args.key.now) c.args.bucket.now c.requires in
    let o = s.ordered in let w = s.within in
    omega (arith, o, w, c.partition_point-from.ensures, c.partition_point-end.ensures)

pub returns-clause-members : goal.returns-clause-members
returns-clause-members g c =
    stretched c.args.width (g.W.Values.list c.args.key.now) c.args.bucket.now c.partition_point-from.result c.partition_point-end.result c.requires
    c.partition_point-from.ensures c.partition_point-end.ensures
