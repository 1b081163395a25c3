-- The longest group is the greatest one.
use Rattle.std.proofs.Common.{◌≡◌, ◌≤◌, ◌<◌, ◌+◌, ℕ, zero, suc, Bool, true, false, cond, ◌⊎◌, inl, inr, List, [], ◌∷◌, length, refl, ap, sym, ◌∙◌, arith}
use Rattle.std.specs.Prelude.{nat_lt, max, slice_get, Option, Some, None}
use Rattle.std.specs.List.{filter, flat_map, sum_by}
use Rattle.std.proofs.lemmas.List.Sums.{sum_by-cons}
use Rattle.std.specs.Option.{unwrap_or}
use Rattle.std.proofs.lemmas.List.{length-append, length-map}
use borrow.Author.Tests.{ltb-true, ltb-false}
use Rattle.std.specs.Map.{values_of, lookup}
use Rattle.beas_core.specs.declared.value.Value.{Value}
use Rattle.beas_core.specs.declared.schema.Access.{Access}
use Rattle.beas_core.specs.Groups.{group_of, greatest, member_columns, same_row}
use Rattle.beas_core.proofs.Groups.{greatest-from_Holds, group_le-greatest}
use Rattle.labelled_list.specs.declared.coded.Coded.{Coded}
use Rattle.access_index.specs.declared.tally.Tally.{Tally}
use Rattle.access_index.specs.Buckets.{is_key, counts_in}
use Rattle.access_index.specs.Index.{Index, IsIndexOf, tallies, tally_of}
use Rattle.code_index.specs.Reading.{IsInOrderFor, read_index, read_group, read_entry, read_entries}
use Rattle.code_index.proofs.Storing.{own_bucket, place_of}
use Rattle.code_index.proofs.GroupFacts.{length_group}
use Rattle.code_index.proofs.Ordering.{Entry}
use Rattle.code_index.proofs.Steps.{group_at, all_kept}

-- no group up to a place is longer, and one is as long
pub record IsLongest (entries : List Entry) (count best : ℕ) : Type 0 where
  pub above : (k : ℕ) (g : List Coded) → k < count → slice_get (values_of entries) k ≡ Some g → length g ≤ best
  pub reached : (best ≡ 0) ⊎ ((k : ℕ) × (g : List Coded) × (slice_get (values_of entries) k ≡ Some g) × (length g ≡ best))

pub longest_none : (entries : List Entry) → IsLongest entries 0 0
longest_none entries = record { above = λ k g l e. absurd (omega (arith, l)); reached = inl refl }

pub longest_more : (entries : List Entry) (i best : ℕ) (g : List Coded) → IsLongest entries i best → slice_get (values_of entries) i ≡ Some g
    → IsLongest entries (i + 1) (max (length g) best)
longest_more entries i best g l there = record { above = above; reached = which (nat_lt (length g) best) refl }
  where
    above : (k : ℕ) (h : List Coded) → k < i + 1 → slice_get (values_of entries) k ≡ Some h → length h ≤ max (length g) best
    above k h m e = by (nat_lt k i) refl
      where
        by : (b : Bool) → nat_lt k i ≡ b → length h ≤ max (length g) best
        by true q = omega (arith, l.above k h (ltb-true k i q) e)
        by false q =
            let n : k ≡ i = omega (arith, m, ltb-false k i q) in
            let at = sym e ∙ ap (slice_get (values_of entries)) n ∙ there in
            let same : h ≡ g = cc in
            omega (arith, ap length same)

    which : (b : Bool) → nat_lt (length g) best ≡ b
        → (max (length g) best ≡ 0) ⊎ ((k : ℕ) × (h : List Coded) × (slice_get (values_of entries) k ≡ Some h) × (length h ≡ max (length g) best))
    which true q =
        let m : best ≡ max (length g) best = omega (arith, ltb-true (length g) best q) in
        elim l.reached [ inl z ↦ inl (sym m ∙ z) | inr r ↦ inr (r.0, r.1, r.2, r.3 ∙ m) ]
    which false q = inr (i, g, there, omega (arith, ltb-false (length g) best q))

-- the group of a key stands at some place
place_of_lookup : (test : List ℕ → Bool) (entries : List Entry) (g : List Coded) → lookup test entries ≡ Some g
    → (k : ℕ) × (k < length entries) × (slice_get (values_of entries) k ≡ Some g)
place_of_lookup test [] g e = cc
place_of_lookup test (x ∷ es) g f = by (test x.0) f (place_of_lookup test es g)
  where
    by : (b : Bool) → cond b (Some x.1) (lookup test es) ≡ Some g
        → (lookup test es ≡ Some g → (k : ℕ) × (k < length es) × (slice_get (values_of es) k ≡ Some g))
        → (k : ℕ) × (k < length (x ∷ es)) × (slice_get (values_of (x ∷ es)) k ≡ Some g)
    by true h rest = (0, omega arith, h)
    by false h rest = let r = rest h in let l = r.1 in (suc r.0, omega arith, r.2)

kept_le : (test : Tally → Bool) (ts : List Tally) → length (filter test ts) ≤ length ts
kept_le test [] = omega arith
kept_le test (t ∷ ts) = by (test t) (kept_le test ts)
  where
    by : (b : Bool) → length (filter test ts) ≤ length ts → length (cond b (t ∷ filter test ts) (filter test ts)) ≤ length (t ∷ ts)
    by true h = omega arith
    by false h = omega arith

part_of_all : (test : Tally → Bool) (buckets : List (List Tally)) (i : ℕ) (bucket : List Tally) → slice_get buckets i ≡ Some bucket
    → length (filter test bucket) ≤ length (flat_map (filter test) buckets)
part_of_all test [] i bucket e = cc
part_of_all test (b ∷ bs) zero bucket e =
    let same : b ≡ bucket = cc in omega (arith, length-append (filter test b) (flat_map (filter test) bs), ap (λ ts. length (filter test ts)) same)
part_of_all test (b ∷ bs) (suc i) bucket e = omega (arith, part_of_all test bs i bucket e, length-append (filter test b) (flat_map (filter test) bs))

read_place : (codes : List Value) (es : List Entry) (i : ℕ) (g : List Coded) → slice_get (values_of es) i ≡ Some g
    → slice_get (values_of (read_entries codes es)) i ≡ Some (read_group codes g)
read_place codes [] i g e = cc
read_place codes (x ∷ es) zero g e = let same : x.1 ≡ g = cc in ap (λ h. Some (read_group codes h)) same
read_place codes (x ∷ es) (suc i) g e = read_place codes es i g e

place_read : (codes : List Value) (es : List Entry) (i : ℕ) (ts : List Tally) → slice_get (values_of (read_entries codes es)) i ≡ Some ts
    → (g : List Coded) × (slice_get (values_of es) i ≡ Some g) × (ts ≡ read_group codes g)
place_read codes [] i ts e = cc
place_read codes (x ∷ es) zero ts e = let same : read_group codes x.1 ≡ ts = cc in (x.1, refl, sym same)
place_read codes (x ∷ es) (suc i) ts e = place_read codes es i ts e

module _ (access : Access) (codes : List Value) (total : ℕ) (es : List Entry)
    (o : IsInOrderFor codes (record { access = access; total = total; groups = es })) (rows : List (List Value))
    (is : IsIndexOf (read_index codes (record { access = access; total = total; groups = es })) rows) where
  abbrev index : Index
  index = read_index codes (record { access = access; total = total; groups = es })

  len_of_group : (key : List Value) → length (tallies index key) ≡ length (group_of rows access key)
  len_of_group key = ap length (is.tallies_are key) ∙ length-map (group_of rows access key) (tally_of access rows)

  within_best : (best : ℕ) → IsLongest es (length es) best → (key : List Value) → length (group_of rows access key) ≤ best
  within_best best l key =
      omega (
        arith,
        len_of_group key,
        ap length (own_bucket (length (member_columns access)) (length access.key) key (read_entries codes es) o.stored.distinct o.stored.buckets),
        by (lookup (same_row key) (read_entries codes es)) refl,
      )
    where
      by : (r : Option (List Tally)) → lookup (same_row key) (read_entries codes es) ≡ r
          → length (filter (is_key (length access.key) key) (unwrap_or r [])) ≤ best
      by None e = omega arith
      by (Some ts) e =
          let p = place_of key (read_entries codes es) ts e in
          let at = p.1 in
          let inside = at.within in
          let r = place_read codes es p.0 ts at.value_is in
          omega (
            arith,
            kept_le (is_key (length access.key) key) ts,
            ap length r.2,
            length_group codes r.0,
            l.above p.0 r.0 (omega (arith, inside, length-map es (read_entry codes))) r.1,
          )

  pub greatest_is : (best : ℕ) → IsLongest es (length es) best → best ≡ greatest rows access.key access.fetched
  greatest_is best l =
      let above = greatest-from_Holds rows (record access { bound = best }) (within_best best l) in
      omega (arith, above, below l.reached)
    where
      below : (best ≡ 0) ⊎ ((k : ℕ) × (g : List Coded) × (slice_get (values_of es) k ≡ Some g) × (length g ≡ best)) → best ≤ greatest rows access.key access.fetched
      below (inl z) = omega (arith, z)
      below (inr r) =
          let w = length access.key in
          let own = group_at codes (length (member_columns access)) w es r.0 r.1 o.stored.buckets r.2 in
          let g = own.1 in
          let len = r.3 in
          omega (
            arith,
            len,
            length_group codes r.1,
            ap length (all_kept w own.0 (read_group codes r.1) g.keyed),
            part_of_all (is_key w own.0) (values_of (read_entries codes es)) r.0 (read_group codes r.1) (read_place codes es r.0 r.1 r.2),
            len_of_group own.0,
            group_le-greatest rows access.key access.fetched own.0,
          )

pub sum_at : (codes : List Value) (es : List Entry) (i : ℕ) (g : List Coded) → slice_get (values_of es) i ≡ Some g
    → counts_in (read_group codes g) ≤ sum_by (λ (e : List Value × List Tally). counts_in e.1) (read_entries codes es)
sum_at codes [] i g e = cc
sum_at codes (x ∷ es) zero g e =
    let same : x.1 ≡ g = cc in
    omega (arith, ap (λ h. counts_in (read_group codes h)) same, sum_by-cons (λ (d : List Value × List Tally). counts_in d.1) (read_entry codes x) (read_entries codes es))
sum_at codes (x ∷ es) (suc i) g e =
    omega (arith, sum_at codes es i g e, sum_by-cons (λ (d : List Value × List Tally). counts_in d.1) (read_entry codes x) (read_entries codes es))
