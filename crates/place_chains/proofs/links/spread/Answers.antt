use Rattle.std.proofs.Common.{◌≡◌, ◌<◌, ℕ, List, length, get_or, ◌∙◌, refl, arith}
use Rattle.std.proofs.Math.ListN.{set}
use Rattle.std.proofs.Math.Seq.{map-set_same}
use Rattle.std.proofs.lemmas.List.{get_or-set_same, get_or-set_other, length-set}
use Rattle.place_chains.specs.declared.links.Link.{Link}
use Rattle.place_chains.proofs.Search.{no_link}
use Rattle.place_chains.proofs.Linking.{heads_next, linked_next}
use Rattle.place_chains.proofs.links.spread.Goals as goal

pub loop-place-preserved : goal.loop-place-preserved
loop-place-preserved c =
    let heads = c.loop-place.heads in
    let links = c.loop-place.links in
    let place = c.loop-place.place in
    let link : Link = record { hash = (get_or links place no_link).hash; earlier = c.replace_head-link.result } in
    let more : List Link = set links place link in
    let invariant = c.loop-place.invariant in
    let within : place < length links = omega arith in
    let some : 0 < length heads = omega arith in
    let wide : place < length more = omega (arith, length-set links place link) in
    let front : (i : ℕ) (d : Link) → i < place → get_or more i d ≡ get_or links i d =
    λ i d l. get_or-set_other links place i link d (λ e. omega (arith, l, e)) in
    let here : (d : Link) → get_or more place d ≡ link = λ d. get_or-set_same links place link d within in (
      map-set_same (λ k. k.hash) links place link no_link refl ∙ invariant.0,
      heads_next heads c.replace_head-link.new.heads links more place link.hash link.earlier some c.replace_head-link.ensures.heads
          c.replace_head-link.ensures.earlier (omega arith) wide front here invariant.1,
      linked_next heads c.replace_head-link.new.heads links more place link.hash link.earlier some c.replace_head-link.ensures.heads
          c.replace_head-link.ensures.earlier (omega arith) wide front here invariant.1 invariant.2,
    )
