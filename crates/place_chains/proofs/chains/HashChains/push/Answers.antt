use Rattle.std.proofs.Common.{◌≡◌, ◌<◌, ◌≤◌, ◌++◌, None, Some, length, slice_index_or, take, drop, vec_capacity, vec_len, ap, sym, ◌∙◌, subst, arith}
use Rattle.std.proofs.Math.ListN.{set}
use Rattle.std.proofs.Math.Seq.{take-append_seam}
use Rattle.std.proofs.lemmas.List.{length-set}
use Rattle.place_chains.specs.declared.chains.HashChains.TheInside.{Inside}
use Rattle.place_chains.specs.Buckets.{IsChained, bucket}
use Rattle.place_chains.proofs.Linking.{chained_next}
use Rattle.place_chains.proofs.chains.HashChains.push.Goals as goal
use Rattle.place_chains.proofs.chains.HashChains.push.Goals.{then-len+in_ok-self-inside, else-len}

-- there is a bucket and room for one place more
abbrev HasRoom : Inside → Type 0
HasRoom s = IsChained s.heads.items s.links.items × (length s.links.items < length s.heads.items) × (vec_len s.heads ≤ vec_capacity s.links)

pub invariant_of-self-2 : goal.invariant_of-self-2
invariant_of-self-2 c =
    let made = c.if-len.self-inside in
    let room : HasRoom made =
    elim c.if-len.branch [
      | then-len+in_ok-self-inside w ↦
          let heads = w.in_ok-self-inside.field-0 in
          let links = w.wider_heads.new.links in
          let more : length links.items < length heads.items = omega (arith, w.in_ok-self-inside.ensures.more, heads.ok.0, links.ok.0) in
          subst HasRoom (sym w.self-inside-is) (w.in_ok-self-inside.ensures.chained, more, w.in_ok-self-inside.ensures.room)
      | else-len w ↦
          let heads = c.self.inside.heads in
          let links = c.self.inside.links in
          let more : length links.items < length heads.items =
          omega (arith, w.if-len.false, c.self.invariant.0.few, c.len.ensures, c.len-2.ensures, heads.ok.0, links.ok.0) in
          subst HasRoom (sym w.self-inside-is) (c.self.invariant.0, more, c.self.invariant.1)
    ] in
    let old = made.heads.items in
    let read = c.deref_mut.result.now in
    let new = c.replace_head-earlier.new.heads in
    let hash = c.args.hash in
    let same : read ≡ old = c.deref_mut.ensures.value in
    let at : c.len-place.result ≡ length made.links.items = omega (arith, c.len-place.ensures, made.links.ok.0) in
    let replaced : new ≡ set old (bucket hash (length old)) (Some (length made.links.items)) =
    c.replace_head-earlier.ensures.heads ∙ ap (λ hs. set hs (bucket hash (length hs)) (Some c.len-place.result)) same
    ∙ ap (λ n. set old (bucket hash (length old)) (Some n)) at in
    let was = c.replace_head-earlier.ensures.earlier ∙ ap (λ hs. slice_index_or hs (bucket hash (length hs)) None) same in
    let chained = chained_next old new made.links.items hash c.replace_head-earlier.result room.0 room.1 replaced was in
    let long : made.heads.len ≡ length new =
    omega (arith, made.heads.ok.0, ap length replaced, length-set old (bucket hash (length old)) (Some (length made.links.items))) in
    let written : take made.heads.len (new ++ drop (length new) old) ≡ new =
    ap (λ n. take n (new ++ drop (length new) old)) long ∙ take-append_seam new (drop (length new) old) in (
      subst (λ hs. IsChained hs c.push_reserved.new.self.items) (sym written)
          (subst (IsChained new) (sym c.push_reserved.ensures.items) chained),
      omega (arith, room.2, c.push_reserved.ensures.capacity),
    )
