-- An index is that of some rows where its counts are theirs.
use Rattle.std.proofs.Common.{◌≡◌, ◌≤◌, ◌<◌, ◌+◌, ℕ, zero, suc, Bool, true, false, cond, ◌⊎◌, inl, inr, List, [], ◌∷◌, ◌++◌, length, map, take, get_or, refl, ap, sym, ◌∙◌, subst, arith}
use Rattle.std.specs.Prelude.{nat_eq, nat_lt, max, slice_get, Option, Some, None}
use borrow.Author.Tests.{ltb-true, ltb-false}
use Rattle.std.specs.Option.{unwrap_or}
use Rattle.std.specs.Ordering.{is_eq}
use Rattle.std.specs.declared.cmp.Ordering.TheVariants.{Less}
use Rattle.std.specs.List.{filter, flat_map, AllByRecursion}
use Rattle.std.specs.Map.{values_of, lookup}
use Rattle.std.proofs.lemmas.List.{take_at, length-append, length-map}
use Rattle.std.specs.List.Sorted.{IsPermutation}
use Rattle.std.proofs.lemmas.List.Sorted.{sum_by-IsPermutation, length_permutation}
use Rattle.std.proofs.lemmas.List.Sums.{sum_by-append, sum_by-cons}
use Rattle.beas_core.specs.declared.value.Value.{Value}
use Rattle.beas_core.specs.declared.schema.Access.{Access}
use Rattle.beas_core.specs.Order.{row_cmp, row_cmp_total}
use Rattle.beas_core.specs.Sets.{IsInOrder}
use Rattle.beas_core.specs.Groups.{project, same_row, group_of, member_columns, greatest}
use Rattle.beas_core.proofs.ValueOrder.{row_cmp_tells}
use Rattle.beas_core.proofs.Sets.{Has, Has-map, Has-from_map, Has-filter, Has-from_filter, Has-distinct, Has-from_distinct, IsInOrder-distinct, all_at, not_less_itself}
use Rattle.beas_core.proofs.Groups.{same_row_true, same_row_itself, length-project, project-append, greatest-from_Holds, group_le-greatest}
use Rattle.access_index.specs.declared.tally.Tally.{Tally}
use Rattle.access_index.specs.Hashing.{hash_of}
use Rattle.access_index.specs.Buckets.{tuples_in, count_for, count_in, one_if, is_key, AllCounted, IsBest, IsGroupLen, group_len, IsStored}
use Rattle.access_index.specs.Index.{Index, IsIndexOf, tallies, tuple_of, key_of, rows_with, tally_of, index_of}
use Rattle.access_index.proofs.Counting.{count_kept, same_counts}
use Rattle.access_index.proofs.Storing.{bucket_at, count_at, own_bucket, found_bucket, place_of}

module _ (access : Access) where
  pub take_tuple : (row : List Value) → take (length access.key) (tuple_of access row) ≡ key_of access row
  take_tuple row =
      ap (take (length access.key)) (project-append access.key access.fetched row)
      ∙ take_at (project access.key row) (project access.fetched row) (length access.key) (length-project access.key row)

  with_cons : (row : List Value) (rows : List (List Value)) (x : List Value)
      → rows_with access (row ∷ rows) x ≡ one_if (same_row (tuple_of access row) x) + rows_with access rows x
  with_cons row rows x = sum_by-cons (λ r. cond (same_row (tuple_of access r) x) 1 0) row rows

  -- one row more, wherever it stands
  pub with_more : (front back : List (List Value)) (row x : List Value)
      → rows_with access (front ++ row ∷ back) x ≡ rows_with access (front ++ back) x + one_if (same_row (tuple_of access row) x)
  with_more front back row x =
      let f : List Value → ℕ = λ r. cond (same_row (tuple_of access r) x) 1 0 in
      omega (arith, sum_by-append f front (row ∷ back), sum_by-append f front back, with_cons row back x)

  -- a tuple is in its key's group where a row has it
  row_with : (rows : List (List Value)) (x : List Value) → 1 ≤ rows_with access rows x → (row : List Value) × (Has rows row) × (x ≡ tuple_of access row)
  row_with [] x h = absurd (omega (arith, h))
  row_with (row ∷ rows) x h = by (same_row (tuple_of access row) x) refl (row_with rows x)
    where
      by : (b : Bool) → same_row (tuple_of access row) x ≡ b → (1 ≤ rows_with access rows x → (r : List Value) × (Has rows r) × (x ≡ tuple_of access r))
          → (r : List Value) × (Has (row ∷ rows) r) × (x ≡ tuple_of access r)
      by true e rest = (row, inl refl, sym (same_row_true (tuple_of access row) x e))
      by false e rest =
          let r = rest (omega (arith, h, with_cons row rows x, ap (λ b. cond {A = ℕ} b 1 0) e)) in (r.0, inr r.1, r.2)

  counted_row : (rows : List (List Value)) (row : List Value) → Has rows row → 1 ≤ rows_with access rows (tuple_of access row)
  counted_row [] row h = absurd h
  counted_row (r ∷ rows) row (inl e) =
      let one = ap (λ b. cond {A = ℕ} b 1 0) (ap (λ s. same_row (tuple_of access r) (tuple_of access s)) e ∙ same_row_itself (tuple_of access r)) in
      omega (arith, with_cons r rows (tuple_of access row), one)
  counted_row (r ∷ rows) row (inr h) = omega (arith, with_cons r rows (tuple_of access row), counted_row rows row h)

  module _ (rows : List (List Value)) (key x : List Value) where
    own_key : List Value → Bool
    own_key row = same_row (project access.key row) key

    has_tuple : 1 ≤ rows_with access rows x → take (length access.key) x ≡ key → Has (group_of rows access key) x
    has_tuple h k =
        let r = row_with rows x h in
        let own : same_row (project access.key r.0) key ≡ true =
        ap (λ y. same_row y key) (sym (take_tuple r.0) ∙ ap (take (length access.key)) (sym r.2) ∙ k) ∙ same_row_itself key in
        subst (Has (group_of rows access key)) (sym r.2)
        (Has-distinct row_cmp_total row_cmp_tells (map (project (member_columns access)) (filter (λ row. same_row (project access.key row) key) rows))
        (tuple_of access r.0)
        (Has-map (project (member_columns access)) (filter (λ row. same_row (project access.key row) key) rows) r.0
        (Has-filter (λ row. same_row (project access.key row) key) rows r.0 r.1 own)))

    tuple_has : Has (group_of rows access key) x → (1 ≤ rows_with access rows x) × (take (length access.key) x ≡ key)
    tuple_has h =
        let r = Has-from_map (project (member_columns access)) (filter (λ row. same_row (project access.key row) key) rows) x
        (Has-from_distinct row_cmp_total row_cmp_tells (map (project (member_columns access)) (filter (λ row. same_row (project access.key row) key) rows)) x h)
        in
        let f = Has-from_filter (λ row. same_row (project access.key row) key) rows r.0 r.1 in (
          subst (λ y. 1 ≤ rows_with access rows y) (sym r.2) (counted_row rows r.0 f.0),
          ap (take (length access.key)) r.2 ∙ take_tuple r.0 ∙ same_row_true (project access.key r.0) key f.1,
        )

    count_lacks : (g : List (List Value)) → (Has g x → ⊥) → count_in (map (tally_of access rows) g) x ≡ 0
    count_lacks [] out = refl
    count_lacks (y ∷ g) out = by (same_row y x) refl (count_lacks g (λ h. out (inr h)))
      where
        by : (b : Bool) → same_row y x ≡ b → count_in (map (tally_of access rows) g) x ≡ 0 → count_in (map (tally_of access rows) (y ∷ g)) x ≡ 0
        by true e rest = absurd (out (inl (sym (same_row_true y x e))))
        by false e rest =
            let here = ap (λ b. cond b (rows_with access rows y) 0) e in
            omega (arith, here, rest, sum_by-cons (count_for x) (tally_of access rows y) (map (tally_of access rows) g))

    count_has : (g : List (List Value)) → IsInOrder row_cmp g → Has g x → count_in (map (tally_of access rows) g) x ≡ rows_with access rows x
    count_has [] o h = absurd h
    count_has (y ∷ g) o (inl e) =
        let here = ap (λ b. cond b (rows_with access rows y) 0) (ap (same_row y) e ∙ same_row_itself y) in
        let rest = count_lacks g (λ h. not_less_itself row_cmp_total row_cmp_tells y x (sym e) (all_at (λ z. row_cmp y z ≡ Less) g x o.0 h)) in
        omega (arith, here, rest, ap (rows_with access rows) e, sum_by-cons (count_for x) (tally_of access rows y) (map (tally_of access rows) g))
    count_has (y ∷ g) o (inr h) =
        let here = ap (λ d. cond (is_eq d) (rows_with access rows y) 0) (all_at (λ z. row_cmp y z ≡ Less) g x o.0 h) in
        omega (arith, here, count_has g o.1 h, sum_by-cons (count_for x) (tally_of access rows y) (map (tally_of access rows) g))

    pub group_in_order : IsInOrder row_cmp (group_of rows access key)
    group_in_order = IsInOrder-distinct row_cmp_total row_cmp_tells
        (map (project (member_columns access)) (filter (λ row. same_row (project access.key row) key) rows))

    pub index_count : count_in (index_of access rows key) x ≡ cond (same_row (take (length access.key) x) key) (rows_with access rows x) 0
    index_count = by (same_row (take (length access.key) x) key) refl (rows_with access rows x) refl
      where
        by : (b : Bool) → same_row (take (length access.key) x) key ≡ b → (n : ℕ) → rows_with access rows x ≡ n
            → count_in (index_of access rows key) x ≡ cond b (rows_with access rows x) 0
        by true e zero z = count_lacks (group_of rows access key) (λ h. let t = tuple_has h in let one = t.0 in omega (arith, one, z)) ∙ sym z
        by true e (suc n) z = count_has (group_of rows access key) group_in_order
            (has_tuple (omega (arith, z)) (same_row_true (take (length access.key) x) key e))
        by false e n z =
            count_lacks (group_of rows access key)
            (λ h. let t = tuple_has h in let s = ap (λ y. same_row y key) (t.1) ∙ same_row_itself key in let f = sym e ∙ s in cc)

  tuples_of_map : (rows g : List (List Value)) → tuples_in (map (tally_of access rows) g) ≡ g
  tuples_of_map rows [] = refl
  tuples_of_map rows (y ∷ g) = ap (λ ys. y ∷ ys) (tuples_of_map rows g)

  -- the tuples of an index are the group
  pub group_tuples : (rows : List (List Value)) (key : List Value) → tuples_in (index_of access rows key) ≡ group_of rows access key
  group_tuples rows key = tuples_of_map rows (group_of rows access key)

  pub counted_map : (rows : List (List Value)) (key : List Value) (g : List (List Value)) → ((x : List Value) → Has g x → Has (group_of rows access key) x)
      → AllCounted (map (tally_of access rows) g)
  counted_map rows key [] f = tt
  counted_map rows key (y ∷ g) f = (let t = tuple_has rows key y (f y (inl refl)) in t.0, counted_map rows key g (λ x h. f x (inr h)))

pub filter_in_order : (test : Tally → Bool) (ts : List Tally) → IsInOrder row_cmp (tuples_in ts) → IsInOrder row_cmp (tuples_in (filter test ts))
filter_in_order test [] o = tt
filter_in_order test (t ∷ ts) o = by (test t) (filter_in_order test ts o.1)
  where
    above : (us : List Tally) → AllByRecursion (λ y. row_cmp t.tuple y ≡ Less) (tuples_in us)
        → AllByRecursion (λ y. row_cmp t.tuple y ≡ Less) (tuples_in (filter test us))
    above [] a = tt
    above (u ∷ us) a = which (test u) (above us a.1)
      where
        which : (b : Bool) → AllByRecursion (λ y. row_cmp t.tuple y ≡ Less) (tuples_in (filter test us))
            → AllByRecursion (λ y. row_cmp t.tuple y ≡ Less) (tuples_in (cond b (u ∷ filter test us) (filter test us)))
        which true rest = (a.0, rest)
        which false rest = rest

    by : (b : Bool) → IsInOrder row_cmp (tuples_in (filter test ts)) → IsInOrder row_cmp (tuples_in (cond b (t ∷ filter test ts) (filter test ts)))
    by true rest = (above ts o.0, rest)
    by false rest = rest

pub filter_counted : (test : Tally → Bool) (ts : List Tally) → AllCounted ts → AllCounted (filter test ts)
filter_counted test [] a = tt
filter_counted test (t ∷ ts) a = by (test t) (filter_counted test ts a.1)
  where
    by : (b : Bool) → AllCounted (filter test ts) → AllCounted (cond b (t ∷ filter test ts) (filter test ts))
    by true rest = (a.0, rest)
    by false rest = rest

module _ (access : Access) (n total : ℕ) (entries : List (ℕ × List Tally)) (stored : IsStored n (length access.key) entries total) (rows : List (List Value))
  where
    abbrev pub index_seen : Index
    index_seen = record { access = access; total = total; buckets = values_of entries }

    pub own : (key : List Value) → tallies index_seen key ≡ filter (is_key (length access.key) key) (bucket_at entries (hash_of key))
    own key = own_bucket n (length access.key) key entries stored.distinct stored.buckets

    pub counts_of_index : IsIndexOf index_seen rows → (x : List Value) → count_at (length access.key) entries x ≡ rows_with access rows x
    counts_of_index is x =
        let w = length access.key in
        let key = take w x in
        let whole : (m : ℕ) → cond (same_row key key) m 0 ≡ m = λ m. ap (λ b. cond b m 0) (same_row_itself key) in
        sym (whole (count_at w entries x)) ∙ sym (count_kept w key x (bucket_at entries (hash_of key)))
        ∙ ap (λ ts. count_in ts x) (sym (own key) ∙ is.tallies_are key)
        ∙ index_count access rows key x ∙ whole (rows_with access rows x)

    in_order_at : (h : ℕ) → IsInOrder row_cmp (tuples_in (bucket_at entries h)) × AllCounted (bucket_at entries h)
    in_order_at h = by (lookup (nat_eq h) entries) refl
      where
        by : (o : Option (List Tally)) → lookup (nat_eq h) entries ≡ o → IsInOrder row_cmp (tuples_in (unwrap_or o [])) × AllCounted (unwrap_or o [])
        by None e = (tt, tt)
        by (Some ts) e = let b = found_bucket n (length access.key) h entries ts stored.buckets e in (b.ordered, b.counted)

    pub index_of_counts : ((x : List Value) → count_at (length access.key) entries x ≡ rows_with access rows x) → total ≡ length rows
        → IsIndexOf index_seen rows
    index_of_counts counts len = record { tallies_are = at; total_is = len }
      where
        at : (key : List Value) → tallies index_seen key ≡ index_of access rows key
        at key =
            let w = length access.key in
            let b = bucket_at entries (hash_of key) in
            own key
            ∙ same_counts (filter (is_key w key) b) (index_of access rows key) (filter_in_order (is_key w key) b (in_order_at (hash_of key)).0)
            (subst (IsInOrder row_cmp) (sym (group_tuples access rows key)) (group_in_order access rows key key))
            (filter_counted (is_key w key) b (in_order_at (hash_of key)).1) (counted_map access rows key (group_of rows access key) (λ x h. h))
            (λ x. count_kept w key x b ∙ alike x (same_row (take w x) key) refl ∙ sym (index_count access rows key x))
          where
            alike : (x : List Value) (c : Bool) → same_row (take (length access.key) x) key ≡ c
                → cond (same_row (take (length access.key) x) key) (count_in (bucket_at entries (hash_of key)) x) 0
                ≡ cond (same_row (take (length access.key) x) key) (rows_with access rows x) 0
            alike x true e =
                ap (λ m. cond (same_row (take (length access.key) x) key) m 0)
                (ap (λ k. count_in (bucket_at entries (hash_of k)) x) (sym (same_row_true (take (length access.key) x) key e)) ∙ counts x)
            alike x false e =
                ap (λ b. cond b (count_in (bucket_at entries (hash_of key)) x) 0) e ∙ sym (ap (λ b. cond b (rows_with access rows x) 0) e)

-- in whatever order the rows stand
module _ (access : Access) (xs ys : List (List Value)) (same : IsPermutation xs ys) where
  rows_with_any : (x : List Value) → rows_with access ys x ≡ rows_with access xs x
  rows_with_any x = sum_by-IsPermutation (λ r. cond {A = ℕ} (same_row (tuple_of access r) x) 1 0) xs ys same

  index_of_any : (key : List Value) → index_of access xs key ≡ index_of access ys key
  index_of_any key =
      let w = length access.key in
      same_counts (index_of access xs key) (index_of access ys key)
      (subst (IsInOrder row_cmp) (sym (group_tuples access xs key)) (group_in_order access xs key key))
      (subst (IsInOrder row_cmp) (sym (group_tuples access ys key)) (group_in_order access ys key key))
      (counted_map access xs key (group_of xs access key) (λ x h. h)) (counted_map access ys key (group_of ys access key) (λ x h. h))
      (λ x. index_count access xs key x
      ∙ ap (λ n. cond (same_row (take w x) key) n 0) (sym (rows_with_any x)) ∙ sym (index_count access ys key x))

pub index_of_permutation : (index : Index) (xs ys : List (List Value)) → IsPermutation xs ys → IsIndexOf index xs → IsIndexOf index ys
index_of_permutation index xs ys p is = record {
  tallies_are = λ key. is.tallies_are key ∙ index_of_any index.access xs ys p key;
  total_is = is.total_is ∙ sym (length_permutation xs ys p);
}

-- the greatest group
pub record IsReachedIn (w : ℕ) (buckets : List (List Tally)) (best : ℕ) : Type 0 where
  pub place : ℕ
  pub bucket : List Tally
  pub there : slice_get buckets place ≡ Some bucket
  pub group : IsGroupLen w bucket best

abbrev pub AllAtMost : ℕ → List Tally → ℕ → Type 0
AllAtMost w bucket best = (k : ℕ) (d : Tally) → k < length bucket → group_len w bucket (get_or bucket k d) ≤ best

pub record IsGreatestUpTo (w : ℕ) (buckets : List (List Tally)) (count best : ℕ) : Type 0 where
  pub above : (k : ℕ) (bucket : List Tally) → k < count → slice_get buckets k ≡ Some bucket → AllAtMost w bucket best
  pub reached : (best ≡ 0) ⊎ IsReachedIn w buckets best

pub greatest_of_none : (w : ℕ) (buckets : List (List Tally)) → IsGreatestUpTo w buckets 0 0
greatest_of_none w buckets = record { above = λ k bucket l e. absurd (omega (arith, l)); reached = inl refl }

-- the part of it that later buckets keep
within_more : (w : ℕ) (bucket : List Tally) (m n : ℕ) → m ≤ n → AllAtMost w bucket m → AllAtMost w bucket n
within_more w bucket m n l a k d h = omega (arith, a k d h, l)

pub greatest_of_more : (w : ℕ) (buckets : List (List Tally)) (i best here : ℕ) (bucket : List Tally) → IsGreatestUpTo w buckets i best
    → slice_get buckets i ≡ Some bucket
    → IsBest w bucket (length bucket) here → IsGreatestUpTo w buckets (i + 1) (max here best)
greatest_of_more w buckets i best here bucket g there own = record { above = all; reached = by (nat_lt here best) refl }
  where
    all : (k : ℕ) (other : List Tally) → k < i + 1 → slice_get buckets k ≡ Some other → AllAtMost w other (max here best)
    all k other l e = which (nat_lt k i) refl
      where
        which : (b : Bool) → nat_lt k i ≡ b → AllAtMost w other (max here best)
        which true h = within_more w other best (max here best) (omega arith) (g.above k other (ltb-true k i h) e)
        which false h =
            let n : k ≡ i = omega (arith, l, ltb-false k i h) in
            let at = sym e ∙ ap (slice_get buckets) n ∙ there in
            let same : other ≡ bucket = cc in
            subst (λ ts. AllAtMost w ts (max here best)) (sym same) (within_more w bucket here (max here best) (omega arith) own.above)

    raised : here ≡ max here best → (max here best ≡ 0) ⊎ IsReachedIn w buckets (max here best)
    raised m = elim own.reached [
      | inl z ↦ inl (sym m ∙ z)
      | inr r ↦ inr
          (subst (IsReachedIn w buckets) m (record { place = i; bucket = bucket; there = there; group = r }))
    ]

    kept : best ≡ max here best → (max here best ≡ 0) ⊎ IsReachedIn w buckets (max here best)
    kept m = elim g.reached [ inl z ↦ inl (sym m ∙ z) | inr r ↦ inr (subst (IsReachedIn w buckets) m r) ]

    by : (b : Bool) → nat_lt here best ≡ b → (max here best ≡ 0) ⊎ IsReachedIn w buckets (max here best)
    by true h = kept (omega (arith, ltb-true here best h))
    by false h = raised (omega (arith, ltb-false here best h))

part_of_all : (test : Tally → Bool) (buckets : List (List Tally)) (i : ℕ) (bucket : List Tally) → slice_get buckets i ≡ Some bucket
    → length (filter test bucket) ≤ length (flat_map (filter test) buckets)
part_of_all test [] i bucket e = cc
part_of_all test (b ∷ bs) zero bucket e =
    let same : b ≡ bucket = cc in omega (arith, length-append (filter test b) (flat_map (filter test) bs), ap (λ ts. length (filter test ts)) same)
part_of_all test (b ∷ bs) (suc i) bucket e = omega (arith, part_of_all test bs i bucket e, length-append (filter test b) (flat_map (filter test) bs))

-- where a test keeps something, it keeps a member
kept_member : (test : Tally → Bool) (ts : List Tally) → 0 < length (filter test ts) → (k : ℕ) × (k < length ts) × ((d : Tally) → test (get_or ts k d) ≡ true)
kept_member test [] l = absurd (omega (arith, l))
kept_member test (t ∷ ts) l = by (test t) refl l (kept_member test ts)
  where
    by : (b : Bool) → test t ≡ b → 0 < length (cond b (t ∷ filter test ts) (filter test ts))
        → (0 < length (filter test ts) → (k : ℕ) × (k < length ts) × ((d : Tally) → test (get_or ts k d) ≡ true))
        → (k : ℕ) × (k < length (t ∷ ts)) × ((d : Tally) → test (get_or (t ∷ ts) k d) ≡ true)
    by true e h rest = (0, omega arith, λ d. e)
    by false e h rest = let r = rest h in (suc r.0, let l = r.1 in omega arith, r.2)

module _ (access : Access) (n total : ℕ) (entries : List (ℕ × List Tally)) (stored : IsStored n (length access.key) entries total) (rows : List (List Value))
    (is : IsIndexOf (index_seen access n total entries stored rows) rows) where
  len_of_group : (key : List Value) → length (tallies (index_seen access n total entries stored rows) key) ≡ length (group_of rows access key)
  len_of_group key = ap length (is.tallies_are key) ∙ length-map (group_of rows access key) (tally_of access rows)

  bucket_len : (best : ℕ) → IsGreatestUpTo (length access.key) (values_of entries) (length (values_of entries)) best → (key : List Value)
      → length (group_of rows access key) ≤ best
  bucket_len best g key =
      omega (arith, sym (len_of_group key), ap length (own access n total entries stored rows key), by (lookup (nat_eq (hash_of key)) entries) refl)
    where
      some : (bucket : List Tally) → lookup (nat_eq (hash_of key)) entries ≡ Some bucket → (m : ℕ) → length (filter (is_key (length access.key) key) bucket) ≡ m
          → length (filter (is_key (length access.key) key) bucket) ≤ best
      some bucket e zero z = omega (arith, z)
      some bucket e (suc m) z =
          let p = place_of (hash_of key) entries bucket e in
          let within = p.1.within in
          let all = g.above p.0 bucket (omega (arith, within, length-map entries (λ (d : ℕ × List Tally). d.1))) p.1.value_is in
          let d : Tally = record { tuple = []; count = 0 } in
          let t = kept_member (is_key (length access.key) key) bucket (omega (arith, z)) in
          let same = same_row_true (take (length access.key) (get_or bucket t.0 d).tuple) key (t.2 d) in
          subst (λ k. length (filter (is_key (length access.key) k) bucket) ≤ best) same (all t.0 d t.1)

      by : (o : Option (List Tally)) → lookup (nat_eq (hash_of key)) entries ≡ o → length (filter (is_key (length access.key) key) (unwrap_or o [])) ≤ best
      by None e = omega arith
      by (Some bucket) e = some bucket e (length (filter (is_key (length access.key) key) bucket)) refl

  pub greatest_is : (best : ℕ) → IsGreatestUpTo (length access.key) (values_of entries) (length (values_of entries)) best
      → best ≡ greatest rows access.key access.fetched
  greatest_is best g =
      let above = greatest-from_Holds rows (record access { bound = best }) (bucket_len best g) in
      omega (arith, above, below g.reached)
    where
      below : (best ≡ 0) ⊎ IsReachedIn (length access.key) (values_of entries) best → best ≤ greatest rows access.key access.fetched
      below (inl z) = omega (arith, z)
      below (inr r) =
          let group = r.group in
          let len = group.is in
          omega (
            arith,
            len,
            part_of_all (is_key (length access.key) group.key) (values_of entries) r.place r.bucket r.there,
            len_of_group group.key,
            group_le-greatest rows access.key access.fetched group.key,
          )
