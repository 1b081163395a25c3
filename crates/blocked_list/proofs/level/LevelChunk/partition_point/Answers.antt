use Rattle.std.proofs.Common.{◌≡◌, ◌<◌, ◌+◌, length, take, ap, sym, subst, ◌∙◌, rules, arith}
use Rattle.std.specs.List.{flat_map, filter}
use Rattle.std.specs.List.Sorted.{IsPartitionedBy}
use Rattle.std.proofs.lemmas.List.Sorted.{IsPartitionPoint-from_clause}
use Rattle.blocked_list.proofs.Joined.{take_le}
use Rattle.blocked_list.proofs.Ending.{kept_le, chunk_ends, place_after_all, place_in_chunk, parts_of_chunk, parts_of_chunks}
use Rattle.blocked_list.proofs.level.LevelChunk.partition_point.Goals as goal

pub len_of-before-requires : goal.len_of-before-requires
len_of-before-requires g c =
    let same = ap (λ xs. length (flat_map g.P.Chunk.items (take c.partition_point-at.result xs))) c.deref-2.ensures.value in
    let len = c.self.invariant.0 in
    omega (arith, same, len, c.recall_few.ensures, ap length c.self.view_is, take_le g.P.Chunk.items c.partition_point-at.result c.self.inside.chunks.items)

pub returns-then-at-len : goal.returns-then-at-len
returns-then-at-len g c =
    let test = g.B.Before.before c.args.wanted.now in
    let items = g.P.Chunk.items in
    let xs = c.self.inside.chunks.items in
    let parts = subst (IsPartitionedBy test) (sym c.self.view_is) c.requires in
    let point = IsPartitionPoint-from_clause (chunk_ends items test) c.deref.result.now c.partition_point-at.result c.partition_point-at.ensures.partitioned
    (parts_of_chunks items test xs c.deref.result.now c.deref.ensures.value c.self.invariant.1 parts) (λ a r q k. search rules) in
    c.len_of-before.ensures
    ∙ place_after_all items test xs c.deref.result.now c.partition_point-at.result c.deref.ensures.value c.self.invariant.1 parts point c.deref-2.result.now
    c.deref-2.ensures.value
    (omega (arith, c.if-at-len.true, c.len.ensures))
    ∙ ap (λ us. length (filter test us)) c.self.view_is

pub partition_point-requires : goal.partition_point-requires
partition_point-requires g c =
    let test = g.B.Before.before c.args.wanted.now in
    let items = g.P.Chunk.items in
    let xs = c.self.inside.chunks.items in
    let parts = subst (IsPartitionedBy test) (sym c.self.view_is) c.requires in
    let within : c.partition_point-at.result < length xs =
    omega (arith, c.partition_point-at.ensures.bound, ap length c.deref.ensures.value, c.if-at-len.false, c.len.ensures) in
    parts_of_chunk items test xs c.partition_point-at.result c.index.result.now within parts c.index.ensures

pub returns : goal.returns
returns g c =
    let test = g.B.Before.before c.args.wanted.now in
    let items = g.P.Chunk.items in
    let xs = c.self.inside.chunks.items in
    let parts = subst (IsPartitionedBy test) (sym c.self.view_is) c.requires in
    let point = IsPartitionPoint-from_clause (chunk_ends items test) c.deref.result.now c.partition_point-at.result c.partition_point-at.ensures.partitioned
    (parts_of_chunks items test xs c.deref.result.now c.deref.ensures.value c.self.invariant.1 parts) (λ a r q k. search rules) in
    let within : c.partition_point-at.result < length xs =
    omega (arith, c.partition_point-at.ensures.bound, ap length c.deref.ensures.value, c.if-at-len.false, c.len.ensures) in
    let sum = place_in_chunk items test xs c.deref.result.now c.partition_point-at.result c.deref.ensures.value c.self.invariant.1 parts point
    c.deref-2.result.now c.deref-2.ensures.value
    within c.index.result.now c.index.ensures in
    omega (arith, sum, c.len_of-before.ensures, c.partition_point.ensures, ap (λ us. length (filter test us)) c.self.view_is)

pub overflow_add-result : goal.overflow_add-result
overflow_add-result g c =
    let test = g.B.Before.before c.args.wanted.now in
    let sum : c.len_of-before.result + c.partition_point.result ≡ length (filter test c.args.self.now) = returns g c in
    let len = c.self.invariant.0 in
    omega (arith, sum, len, c.recall_few.ensures, kept_le test c.args.self.now, ap length c.self.view_is)
