use Rattle.std.proofs.Common.{length, ◌∙◌, ap, sym, subst, rules, arith}
use Rattle.std.specs.List.{filter}
use Rattle.std.specs.List.Sorted.{IsPartitionedBy}
use Rattle.std.proofs.lemmas.List.Sorted.{IsPartitionPoint-from_clause}
use Rattle.blocked_list.proofs.Ending.{point_len}
use Rattle.blocked_list.proofs.leaf.LeafChunk.partition_point.Goals as goal

pub returns : goal.returns
returns g c =
    let test = g.B.Before.before c.args.wanted.now in
    let same = c.deref.ensures.value ∙ c.self.view_is in
    let parts = subst (IsPartitionedBy test) (sym same) c.requires in
    let point = IsPartitionPoint-from_clause test c.deref.result.now c.partition_point.result c.partition_point.ensures.partitioned parts
    (λ a r q k. search rules) in
    point_len test c.deref.result.now c.partition_point.result c.partition_point.ensures.bound (λ k d w. point.0 k d (omega arith) w) point.1
    ∙ ap (λ xs. length (filter test xs)) same
