use Rattle.std.proofs.Common.{◌<◌, IfSome, length, slice_index_or, sym, ◌∙◌, subst}
use Rattle.place_chains.proofs.Search.{IsAhead, ahead_first, ahead_found, ahead_next, hash_at, is_before_end, no_link}
use Rattle.place_chains.proofs.links.same_from.Goals as goal

pub places-init : goal.places-init
places-init c = (c.requires.from, λ count end linked l h. ahead_first c.args.hash count c.args.links.now end c.args.from l h)

pub returns-then-link-hash : goal.returns-then-link-hash
returns-then-link-hash c =
    let links = c.args.links.now in
    let place = c.in-Some.place in
    let within : place < length links = subst (λ at. IfSome at (λ p. p < length links)) c.in-Some.is c.places.invariant.0 in
    λ count end linked l h.
    ahead_found c.args.hash count links end place
    (subst (IsAhead c.args.hash count links end) c.in-Some.is (c.places.invariant.1 count end linked l h))
    (hash_at links place no_link within ∙ c.if-link-hash.true)

pub places-preserved : goal.places-preserved
places-preserved c =
    let links = c.args.links.now in
    let place = c.in-Some.place in
    let within : place < length links = subst (λ at. IfSome at (λ p. p < length links)) c.in-Some.is c.places.invariant.0 in (
      is_before_end place (length links) (slice_index_or links place no_link).earlier within (c.requires.back.back place no_link within),
      λ count end linked l h.
          ahead_next c.args.hash count links end place l
          (subst (IsAhead c.args.hash count links end) c.in-Some.is (c.places.invariant.1 count end linked l h))
          (λ e. c.if-link-hash.false (sym (hash_at links place no_link within) ∙ e)) no_link linked,
    )

pub returns : goal.returns
returns c = λ count end linked l h.
    subst (IsAhead c.args.hash count c.args.links.now end) c.in_default.is (c.places.invariant.1 count end linked l h)
