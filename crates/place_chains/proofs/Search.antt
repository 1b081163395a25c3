-- The way back through a bucket to the last place that has a hash.
--     FindsSame links hash from found     what the search gives from a place on, or from none
--     IsAhead hash count links end at     from `end` back to `at`, which is in the bucket of the hash, no place has the hash
use Rattle.std.proofs.Common.{◌≡◌, ◌<◌, ◌≤◌, ◌+◌, ◌*◌, ◌/◌, ℕ, List, Option, None, Some, IfSome, length, get_or, ap, sym, ◌∙◌, refl, subst, inl, inr, arith}
use Rattle.std.proofs.lemmas.Bool.{cases_lt}
use Rattle.std.proofs.lemmas.List.{get_or-map, get_or_read_under, length-map}
use Rattle.std.proofs.Math.Nat.{div-lt_iff_lt-mul, eq-or-lt_of_le, mod-eq_of_lt, mul_comm, mul-lt-mul_of_pos_left}
use Rattle.place_chains.specs.declared.links.Link.{Link}
use Rattle.place_chains.specs.Chains.{IsLast}
use Rattle.place_chains.specs.Buckets.{AreLinked, IsChained, bucket, buckets_of, hashes_of}

pub bucket_below : (hash count : ℕ) → 0 < count → bucket hash count < count
unfolding bucket
bucket_below hash count some = let middle = hash * count / 18446744073709551616 in omega arith

pub bucket_told : (hash count : ℕ) → hash < 18446744073709551616 → 0 < count → hash * count / 18446744073709551616 ≡ bucket hash count
unfolding bucket
bucket_told hash count small some =
    let wide : hash * count < count * 18446744073709551616 =
    subst (λ n. n < count * 18446744073709551616) (mul_comm count hash) (mul-lt-mul_of_pos_left small some) in
    sym (mod-eq_of_lt ((div-lt_iff_lt-mul (omega arith)).1 wide))

-- how many places may still be on the way
abbrev pub way_from : Option ℕ → ℕ
way_from None = 0
way_from (Some p) = p + 1

abbrev pub IsAhead : ℕ → ℕ → List Link → ℕ → Option ℕ → Type 0
IsAhead hash count links end None = (i : ℕ) → i < end → get_or (hashes_of links) i 0 ≡ hash → ⊥
IsAhead hash count links end (Some p) = (p < end) × (get_or (buckets_of count links) p 0 ≡ bucket hash count)
    × ((i : ℕ) → p < i → i < end → get_or (hashes_of links) i 0 ≡ hash → ⊥)

abbrev pub no_link : Link
no_link = record { hash = 0; earlier = None }

pub hash_at : (links : List Link) (i : ℕ) (d : Link) → i < length links → get_or (hashes_of links) i 0 ≡ (get_or links i d).hash
hash_at links i d l = get_or-map (λ k. k.hash) links i d 0 l

pub bucket_at : (count : ℕ) (links : List Link) (i : ℕ) (d : Link) → i < length links
    → get_or (buckets_of count links) i 0 ≡ bucket (get_or links i d).hash count
bucket_at count links i d l = get_or-map (λ k. bucket k.hash count) links i d 0 l

-- places of one hash are in one bucket
same_bucket : (hash count : ℕ) (links : List Link) (i : ℕ) → i < length links → get_or (hashes_of links) i 0 ≡ hash
    → get_or (buckets_of count links) i 0 ≡ bucket hash count
same_bucket hash count links i l e = bucket_at count links i no_link l ∙ ap (λ h. bucket h count) (sym (hash_at links i no_link l) ∙ e)

pub ahead_first : (hash count : ℕ) (links : List Link) (end : ℕ) (from : Option ℕ) → end ≤ length links
    → IsLast (bucket hash count) (buckets_of count links) end from → IsAhead hash count links end from
ahead_first hash count links end None l h = λ i w e. h i w (same_bucket hash count links i (omega arith) e)
ahead_first hash count links end (Some p) l h = (h.0, h.1, λ i v w e. h.2 i v w (same_bucket hash count links i (omega arith) e))

module _ (hash count : ℕ) (links : List Link) (end p : ℕ) (l : end ≤ length links) (ahead : IsAhead hash count links end (Some p))
    (other : get_or (hashes_of links) p 0 ≡ hash → ⊥) where
  -- no place from this one on has the hash
  none_from : (i : ℕ) → p ≤ i → i < end → get_or (hashes_of links) i 0 ≡ hash → ⊥
  none_from i v w e = elim (eq-or-lt_of_le v) [ inl s ↦ other (ap (λ k. get_or (hashes_of links) k 0) s ∙ e) | inr s ↦ ahead.2 i s w e ]

  next_of : (next : Option ℕ) → IsLast (bucket hash count) (buckets_of count links) p next → IsAhead hash count links end next
  next_of None h = λ i w e.
      elim (cases_lt i p) [ inl v ↦ h i v (same_bucket hash count links i (omega arith) e) | inr v ↦ none_from i v w e ]
  next_of (Some q) h = (
    omega (arith, h.0, ahead.0),
    h.1,
    λ i u w e. elim (cases_lt i p) [ inl v ↦ h.2 i u v (same_bucket hash count links i (omega arith) e) | inr v ↦ none_from i v w e ],
  )

  pub ahead_next : (d : Link) → AreLinked count links (length links) → IsAhead hash count links end (get_or links p d).earlier
  ahead_next d linked =
      let within : p < length links = omega (arith, ahead.0) in
      let same : bucket (get_or links p d).hash count ≡ bucket hash count = sym (bucket_at count links p d within) ∙ ahead.1 in
      next_of (get_or links p d).earlier
      (subst (λ b. IsLast b (buckets_of count links) p (get_or links p d).earlier) same (linked.last p d within))

pub ahead_found : (hash count : ℕ) (links : List Link) (end p : ℕ) → IsAhead hash count links end (Some p)
    → get_or (hashes_of links) p 0 ≡ hash → IsLast hash (hashes_of links) end (Some p)
ahead_found hash count links end p h e = (h.0, e, h.2)

pub is_before_end : (place end : ℕ) (f : Option ℕ) → place < end → IfSome f (λ p. p < place) → IfSome f (λ p. p < end)
is_before_end place end None l h = tt
is_before_end place end (Some p) l h = omega (arith, l, h)

abbrev pub FindsSame : List Link → ℕ → Option ℕ → Option ℕ → Type 0
FindsSame links hash from found = (count end : ℕ) → AreLinked count links (length links) → end ≤ length links
    → IsLast (bucket hash count) (buckets_of count links) end from → IsLast hash (hashes_of links) end found

-- what is found from a head, and from a link
module _ (heads : List (Option ℕ)) (links read : List Link) (hashes : List ℕ) (chained : IsChained heads links) (same : read ≡ links)
    (are : hashes_of links ≡ hashes) where
  long : length links ≡ length hashes
  long = sym (length-map links (λ k. k.hash)) ∙ ap length are

  pub latest_found : (hash at count : ℕ) (head found : Option ℕ) → 0 < count → count ≡ length heads → at ≡ bucket hash count
      → head ≡ get_or heads at head → FindsSame read hash head found → IsLast hash hashes (length hashes) found
  latest_found hash at count head found some wide in_bucket is finds =
      let bucket_is : at ≡ bucket hash (length heads) = in_bucket ∙ ap (λ n. bucket hash n) wide in
      let within : bucket hash (length heads) < length heads = bucket_below hash (length heads) (omega arith) in
      let from : head ≡ get_or heads (bucket hash (length heads)) None =
      get_or_read_under heads (bucket hash (length heads)) (length heads) head None (is ∙ ap (λ b. get_or heads b head) bucket_is) within refl in
      let last = subst (IsLast (bucket hash (length heads)) (buckets_of (length heads) links) (length links)) (sym from)
      (chained.heads_are.last (bucket hash (length heads)) within) in
      let all = subst (λ ks. FindsSame ks hash head found) same finds (length heads) (length links) chained.linked (omega arith) last in
      subst (λ n. IsLast hash hashes n found) long (subst (λ hs. IsLast hash hs (length links) found) are all)

  pub earlier_found : (place : ℕ) (link : Link) (found : Option ℕ) → place < length hashes → link ≡ get_or links place link
      → FindsSame read link.hash link.earlier found → IsLast (get_or hashes place 0) hashes place found
  earlier_found place link found l is finds =
      let within : place < length links = omega (arith, long) in
      let last = subst (λ k. IsLast (bucket k.hash (length heads)) (buckets_of (length heads) links) place k.earlier) (sym is)
      (chained.linked.last place link within) in
      let all = subst (λ ks. FindsSame ks link.hash link.earlier found) same finds (length heads) place chained.linked (omega arith) last in
      let hash : link.hash ≡ get_or (hashes_of links) place 0 = ap (λ k. k.hash) is ∙ sym (hash_at links place link within) in
      subst (λ hs. IsLast (get_or hs place 0) hs place found) are (subst (λ h. IsLast h (hashes_of links) place found) hash all)
