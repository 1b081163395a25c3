-- One place more is linked.
use Rattle.std.proofs.Common.{◌≡◌, ◌≢◌, ◌<◌, ◌≤◌, ◌+◌, ℕ, List, [], ◌∷◌, ◌++◌, ◌⊎◌, Option, None, Some, length, get_or, ap, sym, ◌∙◌, subst, inl, inr, arith}
use Rattle.std.proofs.Math.ListN.{set}
use Rattle.std.proofs.Math.Nat.{eq-or-lt_of_le}
use Rattle.std.proofs.lemmas.Bool.{cases_lt}
use Rattle.std.proofs.Math.Seq.{get_or-append_seam}
use Rattle.std.proofs.lemmas.List.{get_or_append_left, get_or-set_same, get_or-set_other, length-append, length-set}
use Rattle.place_chains.specs.declared.links.Link.{Link}
use Rattle.place_chains.specs.Chains.{IsLast}
use Rattle.place_chains.specs.Buckets.{AreHeads, AreLinked, IsChained, bucket, buckets_of}
use Rattle.place_chains.proofs.Search.{bucket_at, bucket_below, no_link}

-- the last place before an end depends on the places before it alone
pub last_in_other : (h : ℕ) (xs ys : List ℕ) (end : ℕ) (f : Option ℕ) → ((i : ℕ) → i < end → get_or ys i 0 ≡ get_or xs i 0)
    → IsLast h xs end f → IsLast h ys end f
last_in_other h xs ys end None same l = λ i w e. l i w (sym (same i w) ∙ e)
last_in_other h xs ys end (Some p) same l = (l.0, same p l.0 ∙ l.1, λ i v w e. l.2 i v w (sym (same i w) ∙ e))

last_here : (h : ℕ) (xs : List ℕ) (end : ℕ) → get_or xs end 0 ≡ h → IsLast h xs (end + 1) (Some end)
last_here h xs end e = (omega arith, e, λ i v w _. absurd (omega arith))

last_before : (h : ℕ) (xs : List ℕ) (end : ℕ) (f : Option ℕ) → (get_or xs end 0 ≡ h → ⊥) → IsLast h xs end f → IsLast h xs (end + 1) f
last_before h xs end None other l = λ i w e.
    elim (cases_lt i end) [
      | inl v ↦ l i v e
      | inr v ↦ let is : end ≡ i = omega arith in other (ap (λ k. get_or xs k 0) is ∙ e)
    ]
last_before h xs end (Some p) other l = (
  omega (arith, l.0),
  l.1,
  λ i u w e.
      elim (cases_lt i end) [
        | inl v ↦ l.2 i u v e
        | inr v ↦ let is : end ≡ i = omega arith in other (ap (λ k. get_or xs k 0) is ∙ e)
      ],
)

same_or_other : (k b : ℕ) → (k ≡ b) ⊎ (k ≢ b)
same_or_other k b =
    elim (cases_lt k b) [
      | inl v ↦ inr (λ e. omega (arith, v, e))
      | inr v ↦ elim (eq-or-lt_of_le v) [ inl s ↦ inl (sym s) | inr w ↦ inr (λ e. omega (arith, w, e)) ]
    ]

-- the place at the end joins its bucket
module _ (heads new_heads : List (Option ℕ)) (links more : List Link) (end hash : ℕ) (earlier : Option ℕ) (some : 0 < length heads)
    (replaced : new_heads ≡ set heads (bucket hash (length heads)) (Some end)) (was : earlier ≡ get_or heads (bucket hash (length heads)) None)
    (old : end ≤ length links) (within : end < length more) (front : (i : ℕ) (d : Link) → i < end → get_or more i d ≡ get_or links i d)
    (here : (d : Link) → get_or more end d ≡ record { hash = hash; earlier = earlier })
    (heads_are : AreHeads (length heads) heads links end) where
  same_count : length new_heads ≡ length heads
  same_count = ap length replaced ∙ length-set heads (bucket hash (length heads)) (Some end)

  bucket_within : bucket hash (length heads) < length heads
  bucket_within = bucket_below hash (length heads) some

  same_buckets : (i : ℕ) → i < end → get_or (buckets_of (length heads) more) i 0 ≡ get_or (buckets_of (length heads) links) i 0
  same_buckets i l =
      bucket_at (length heads) more i no_link (omega arith) ∙ ap (λ k. bucket k.hash (length heads)) (front i no_link l)
      ∙ sym (bucket_at (length heads) links i no_link (omega arith))

  bucket_here : get_or (buckets_of (length heads) more) end 0 ≡ bucket hash (length heads)
  bucket_here = bucket_at (length heads) more end no_link within ∙ ap (λ k. bucket k.hash (length heads)) (here no_link)

  last_known : (b : ℕ) → b < length heads → IsLast b (buckets_of (length heads) more) end (get_or heads b None)
  last_known b l =
      last_in_other b (buckets_of (length heads) links) (buckets_of (length heads) more) end (get_or heads b None) same_buckets (heads_are.last b l)

  head_after : (b : ℕ) → b < length heads
      → IsLast b (buckets_of (length heads) more) (end + 1) (get_or (set heads (bucket hash (length heads)) (Some end)) b None)
  head_after b l =
      elim (same_or_other b (bucket hash (length heads))) [
        | inl s ↦ subst (IsLast b (buckets_of (length heads) more) (end + 1))
            (sym (ap (λ k. get_or (set heads (bucket hash (length heads)) (Some end)) k None) s
            ∙ get_or-set_same heads (bucket hash (length heads)) (Some end) None bucket_within))
            (last_here b (buckets_of (length heads) more) end (bucket_here ∙ sym s))
        | inr s ↦ subst (IsLast b (buckets_of (length heads) more) (end + 1)) (sym (get_or-set_other heads (bucket hash (length heads)) b (Some end) None s))
            (last_before b (buckets_of (length heads) more) end (get_or heads b None) (λ e. s (sym e ∙ bucket_here)) (last_known b l))
      ]

  pub heads_next : AreHeads (length new_heads) new_heads more (end + 1)
  heads_next =
      subst (λ n. AreHeads n new_heads more (end + 1)) (sym same_count)
      (subst (λ hs. AreHeads (length heads) hs more (end + 1)) (sym replaced) (record { last = head_after }))

  abbrev IsRight : ℕ → Link → Type 0
  IsRight i k = IsLast (bucket k.hash (length heads)) (buckets_of (length heads) more) i k.earlier

  pub linked_next : AreLinked (length heads) links end → AreLinked (length new_heads) more (end + 1)
  linked_next linked =
      subst (λ n. AreLinked n more (end + 1)) (sym same_count) (record {
        last = λ i d l. elim (cases_lt i end) [ inl v ↦ link_before i d v | inr v ↦ link_at i d (omega arith) ];
      })
    where
      link_before : (i : ℕ) (d : Link) → i < end → IsRight i (get_or more i d)
      link_before i d l =
          subst (IsRight i) (sym (front i d l))
          (last_in_other (bucket (get_or links i d).hash (length heads)) (buckets_of (length heads) links) (buckets_of (length heads) more) i
          (get_or links i d).earlier (λ j w. same_buckets j (omega arith)) (linked.last i d l))

      link_at : (i : ℕ) (d : Link) → i ≡ end → IsRight i (get_or more i d)
      link_at i d e =
          subst (λ j. IsRight j (get_or more j d)) (sym e)
          (subst (IsRight end) (sym (here d)) (subst (IsLast (bucket hash (length heads)) (buckets_of (length heads) more) end) (sym was)
          (last_known (bucket hash (length heads)) bucket_within)))

-- a new place goes into its bucket
pub chained_next : (heads new_heads : List (Option ℕ)) (links : List Link) (hash : ℕ) (earlier : Option ℕ) → IsChained heads links
    → length links < length heads → new_heads ≡ set heads (bucket hash (length heads)) (Some (length links))
    → earlier ≡ get_or heads (bucket hash (length heads)) None → IsChained new_heads (links ++ record { hash = hash; earlier = earlier } ∷ [])
chained_next heads new_heads links hash earlier chained few replaced was =
    let link : Link = record { hash = hash; earlier = earlier } in
    let more : List Link = links ++ link ∷ [] in
    let long : length more ≡ length links + 1 = length-append links (link ∷ []) in
    let same : length new_heads ≡ length heads = ap length replaced ∙ length-set heads (bucket hash (length heads)) (Some (length links)) in
    let some : 0 < length heads = omega arith in
    let wide : length links < length more = omega arith in
    let front : (i : ℕ) (d : Link) → i < length links → get_or more i d ≡ get_or links i d = λ i d l. get_or_append_left links (link ∷ []) d i l in
    let here : (d : Link) → get_or more (length links) d ≡ link = λ d. get_or-append_seam links link [] d in
    record {
      few = omega arith;
      heads_are = subst (AreHeads (length new_heads) new_heads more) (sym long)
          (heads_next heads new_heads links more (length links) hash earlier some replaced was (omega arith) wide front here chained.heads_are);
      linked = subst (AreLinked (length new_heads) more) (sym long)
          (linked_next heads new_heads links more (length links) hash earlier some replaced was (omega arith) wide front here chained.heads_are
          chained.linked);
    }
