use Rattle.std.proofs.Common.{◌<◌, ◌/◌, length, ap, sym, subst, ◌∙◌, arith, length-append}
use Rattle.std.specs.List.{flat_map}
use Rattle.std.proofs.lemmas.List.{length-take, length-drop}
use Rattle.blocked_list.specs.Chunks.{AllHaveItems}
use Rattle.blocked_list.proofs.Joined.{cut_at, some_items, all_take, all_drop}
use Rattle.blocked_list.proofs.level.LevelChunk.split.Goals as goal

pub len_of-len-requires : goal.len_of-len-requires
len_of-len-requires g c =
    let items = g.P.Chunk.items in
    let front = c.split_off.new.self.items in
    let back = c.in-Ok.chunks.items in
    let whole = ap length (cut_at items (c.len-half.result / 2) c.self.inside.chunks.items front back c.in-Ok.ensures.items c.in-Ok.ensures.tail) in
    let same = ap (λ xs. length (flat_map items xs)) c.deref.ensures.value in
    let len = c.self.invariant.0 in
    omega (arith, whole, same, len, length-append (flat_map items front) (flat_map items back))

pub overflow_sub-self : goal.overflow_sub-self
overflow_sub-self g c =
    let items = g.P.Chunk.items in
    let front = c.split_off.new.self.items in
    let back = c.in-Ok.chunks.items in
    let whole = ap length (cut_at items (c.len-half.result / 2) c.self.inside.chunks.items front back c.in-Ok.ensures.items c.in-Ok.ensures.tail) in
    let same = ap (λ xs. length (flat_map items xs)) c.deref.ensures.value in
    let len = c.self.invariant.0 in
    omega (arith, whole, same, len, c.len_of-len.ensures, length-append (flat_map items front) (flat_map items back))

pub invariant_of-self-2 : goal.invariant_of-self-2
invariant_of-self-2 g c =
    let items = g.P.Chunk.items in
    let front = c.split_off.new.self.items in
    let back = c.in-Ok.chunks.items in
    let whole = ap length (cut_at items (c.len-half.result / 2) c.self.inside.chunks.items front back c.in-Ok.ensures.items c.in-Ok.ensures.tail) in
    let same = ap (λ xs. length (flat_map items xs)) c.deref.ensures.value in
    let len = c.self.invariant.0 in (
      omega (arith, whole, same, len, c.len_of-len.ensures, length-append (flat_map items front) (flat_map items back)),
      subst (AllHaveItems items) (sym c.in-Ok.ensures.items)
          (all_take (λ p. 0 < length (items p)) (c.len-half.result / 2) c.self.inside.chunks.items c.self.invariant.1),
    )

pub returns : goal.returns
returns g c =
    let items = g.P.Chunk.items in
    let xs = c.self.inside.chunks.items in
    let half = c.len-half.result / 2 in
    let front_some : 0 < length c.split_off.new.self.items =
    omega (arith, c.if-len-lt-MOST.false, c.len.ensures, c.len-half.ensures, ap length c.in-Ok.ensures.items, length-take half xs) in
    let back_some : 0 < length c.in-Ok.chunks.items =
    omega (arith, c.if-len-lt-MOST.false, c.len.ensures, c.len-half.ensures, ap length c.in-Ok.ensures.tail, length-drop half xs) in
    record {
      same = sym c.self.view_is ∙ cut_at items half xs c.split_off.new.self.items c.in-Ok.chunks.items c.in-Ok.ensures.items c.in-Ok.ensures.tail;
      front_has = some_items items c.split_off.new.self.items front_some
          (subst (AllHaveItems items) (sym c.in-Ok.ensures.items) (all_take (λ p. 0 < length (items p)) half xs c.self.invariant.1));
      back_has = some_items items c.in-Ok.chunks.items back_some
          (subst (AllHaveItems items) (sym c.in-Ok.ensures.tail) (all_drop (λ p. 0 < length (items p)) half xs c.self.invariant.1));
    }
