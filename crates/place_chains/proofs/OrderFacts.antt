-- An order of tuples, and the run of it that has some values.
use Rattle.std.proofs.Common.{◌≡◌, ◌<◌, ◌≤◌, ◌+◌, ◌-◌, ◌++◌, ◌∷◌, ◌∙◌, inl, inr, [], ℕ, pos, min, Bool, true, false, true≢false, List, All, Contains, length, take, drop, map, get_or, nat_eq, refl, ap, sym, arith}
use Rattle.std.specs.declared.cmp.Ordering.{Ordering}
use Rattle.std.specs.declared.cmp.Ordering.TheVariants.{Less, Equal, Greater}
use Rattle.std.specs.Cmp.{IsTotalOrder, IsStrictWeakOrder}
use Rattle.std.specs.List.{IsDistinct, range_with_len}
use Rattle.std.specs.List.Sorted.{IsPartitionPoint, IsPartitionedBy}
use Rattle.std.specs.Ordering.{is_le, is_lt, nat_cmp, ordering_reverse, ordering_then}
use Rattle.std.proofs.lemmas.Bool.{cases_lt}
use Rattle.std.proofs.lemmas.Cmp.{nat_cmp_total, on_total, ranked, then_total, tied_itself}
use Rattle.std.proofs.lemmas.List.{drop_all, drop_more, get_or-drop, get_or-take, get_or_default, length-drop, length-take}
use Rattle.std.proofs.lemmas.List.FromFn.{get_or-range_with_len, length-range_with_len, map-range_with_len_more}
use Rattle.std.proofs.lemmas.List.MinMax.{ranks_by}
use Rattle.std.proofs.lemmas.List.Sorted.{All-permutation, Contains-permutation, sorted_far}
use Rattle.std.proofs.lemmas.Map.Keys.{IsDistinct-IsPermutation, IsDistinct-from_apart, apart_from_distinct}
use Rattle.beas_core.specs.declared.value.Value.TheVariants.{Int}
use Rattle.beas_core.specs.Order.{row_cmp, row_cmp_total}
use Rattle.beas_core.specs.Types.{Row}
use Rattle.beas_core.proofs.ValueOrder.{row_cmp_tells}
use Rattle.place_chains.specs.Fitting.{IsRun}
use Rattle.place_chains.specs.TupleOrder.{IsOrder, number_cmp, values_at}

-- ---- what an order of rows answers

abbrev pub is_before : Row → Row → Bool
is_before left right = is_lt (row_cmp left right)

before_weak : IsStrictWeakOrder is_before
before_weak = ranks_by row_cmp_total (λ r. r)

le_turned : (o p : Ordering) → o ≡ ordering_reverse p → is_le o ≡ true → is_lt p ≡ false
le_turned o Less e l = absurd (true≢false (sym l ∙ ap is_le e))
le_turned o Equal e l = refl
le_turned o Greater e l = refl

turned_le : (o p : Ordering) → o ≡ ordering_reverse p → is_lt p ≡ false → is_le o ≡ true
turned_le o Less e l = absurd (true≢false l)
turned_le o Equal e l = ap is_le e
turned_le o Greater e l = ap is_le e

tied : (o : Ordering) → is_lt o ≡ false → is_le o ≡ true → o ≡ Equal
tied Less a b = absurd (true≢false a)
tied Equal a b = refl
tied Greater a b = absurd (true≢false (sym b))

same_values : (left right : Row) → is_lt (row_cmp left right) ≡ false → is_le (row_cmp left right) ≡ true → left ≡ right
same_values left right a b = row_cmp_tells left right (tied (row_cmp left right) a b)

then_least : (o p : Ordering) → is_lt (ordering_then o p) ≡ false → is_lt o ≡ false
then_least Less p e = e
then_least Equal p e = refl
then_least Greater p e = refl

not_less : (i j : ℕ) → is_lt (nat_cmp i j) ≡ false → j ≤ i
not_less i j e = by (nat_cmp i j) refl e
  where
    by : (o : Ordering) → o ≡ nat_cmp i j → is_lt o ≡ false → j ≤ i
    by Less is l = absurd (true≢false l)
    by Equal is l = let r = ranked i j Equal is in omega (arith, r)
    by Greater is l = let r = ranked i j Greater is in omega (arith, r)

-- ---- how many places there are on both sides

-- where all places that both sides have tie, the side with more comes last
pub ends : (own places : List ℕ) (tuple row : Row) (at : ℕ) → at ≡ min (length own) (length places)
    → row_cmp (values_at (drop at own) tuple) (values_at (drop at places) row) ≡ nat_cmp (length own) (length places)
ends own places tuple row at e = by (nat_cmp (length own) (length places)) refl
  where
    none : (ps : List ℕ) (r : Row) → length ps ≤ at → values_at (drop at ps) r ≡ []
    none ps r l = ap (λ qs. values_at qs r) (drop_all at ps l)

    more : (ps : List ℕ) (r : Row) → at < length ps → values_at (drop at ps) r ≡ get_or r (get_or ps at 0) (Int (pos 0)) ∷ values_at (drop (at + 1) ps) r
    more ps r l = ap (λ qs. values_at qs r) (drop_more ps at 0 l)

    by : (o : Ordering) → o ≡ nat_cmp (length own) (length places) → row_cmp (values_at (drop at own) tuple) (values_at (drop at places) row) ≡ o
    by Less is = let l = ranked (length own) (length places) Less is in
        ap (λ vs. row_cmp vs (values_at (drop at places) row)) (none own tuple (omega (arith, l, e))) ∙ ap (row_cmp []) (more places row (omega (arith, l, e)))
    by Equal is = let l = ranked (length own) (length places) Equal is in
        ap (λ vs. row_cmp vs (values_at (drop at places) row)) (none own tuple (omega (arith, l, e))) ∙ ap (row_cmp []) (none places row (omega (arith, l, e)))
    by Greater is = let l = ranked (length own) (length places) Greater is in
        ap (λ vs. row_cmp vs (values_at (drop at places) row)) (more own tuple (omega (arith, l, e)))
        ∙ ap (row_cmp (get_or tuple (get_or own at 0) (Int (pos 0)) ∷ values_at (drop (at + 1) own) tuple)) (none places row (omega (arith, l, e)))

-- ---- an order's numbers

themselves : (xs : List ℕ) → map (λ x. x) xs ≡ xs
themselves [] = refl
themselves (x ∷ xs) = ap (λ ys. x ∷ ys) (themselves xs)

pub one_number_more : (i : ℕ) → range_with_len 0 (i + 1) ≡ range_with_len 0 i ++ i ∷ []
one_number_more i =
    let e : 0 + i ≡ i = omega arith in
    sym (themselves (range_with_len 0 (i + 1))) ∙ map-range_with_len_more (λ x. x) 0 i i e ∙ ap (λ (xs : List ℕ). xs ++ i ∷ []) (themselves (range_with_len 0 i))

module _ (places : List ℕ) (tuples : List Row) where
  abbrev pub own : ℕ → Row
  own i = values_at places (get_or tuples i [])

  abbrev pub less : Row → ℕ → Bool
  less values i = is_lt (row_cmp (own i) values)

  abbrev pub no_more : Row → ℕ → Bool
  no_more values i = is_le (row_cmp (own i) values)

  pub number_cmp_total : IsTotalOrder (number_cmp places tuples)
  number_cmp_total = then_total (on_total own row_cmp_total) nat_cmp_total

  pub numbers_weak : IsStrictWeakOrder (λ i j. is_lt (number_cmp places tuples i j))
  numbers_weak = ranks_by number_cmp_total (λ i. i)

  module _ (numbers : List ℕ) (order : IsOrder places tuples numbers) where
    at : (i d : ℕ) → i < length tuples → get_or (range_with_len 0 (length tuples)) i d ≡ i
    at i d l = let is = get_or-range_with_len 0 (length tuples) i d l in omega (arith, is)

    pub numbers_below : All (λ i. i < length tuples) numbers
    numbers_below = All-permutation (λ i. i < length tuples) (range_with_len 0 (length tuples)) numbers order.all (λ k d l.
        let n = length-range_with_len 0 (length tuples) in
        let is = get_or-range_with_len 0 (length tuples) k d (omega (arith, l, n)) in
        omega (arith, l, n, is))

    pub number_there : (i : ℕ) → i < length tuples → Contains numbers i
    number_there i l =
        let n = length-range_with_len 0 (length tuples) in
        let there : Contains (range_with_len 0 (length tuples)) i = (i, omega (arith, l, n), at i i l) in
        Contains-permutation (range_with_len 0 (length tuples)) numbers i order.all there

    numbers_distinct : IsDistinct nat_eq numbers
    numbers_distinct = IsDistinct-IsPermutation nat_eq (λ x y. grind arith) (range_with_len 0 (length tuples)) numbers order.all
        (IsDistinct-from_apart nat_eq (range_with_len 0 (length tuples)) (λ i j d ij l.
        let n = length-range_with_len 0 (length tuples) in
        let a = at i d (omega (arith, ij, l, n)) in
        let b = at j d (omega (arith, l, n)) in
        ap (λ x. nat_eq x (get_or (range_with_len 0 (length tuples)) j d)) a ∙ ap (nat_eq i) b ∙ apart i j ij))
      where
        apart : (i j : ℕ) → i < j → nat_eq i j ≡ false
        apart i j l = grind arith

    -- no tuple comes after one that has greater values
    pub rises : (i j : ℕ) → i ≤ j → j < length numbers → is_before (own (get_or numbers j 0)) (own (get_or numbers i 0)) ≡ false
    rises i j ij l =
        then_least (row_cmp (own (get_or numbers j 0)) (own (get_or numbers i 0))) (nat_cmp (get_or numbers j 0) (get_or numbers i 0))
        (sorted_far (λ x y. is_lt (number_cmp places tuples x y)) numbers_weak numbers order.sorted i j 0 ij l)

    module _ (values : Row) where
      less_by : (i j : ℕ) → is_before (own j) (own i) ≡ false → less values j ≡ true → less values i ≡ true
      less_by i j rise l = by (less values i) refl
        where
          by : (b : Bool) → less values i ≡ b → less values i ≡ true
          by true e = e
          by false e = absurd (true≢false (sym l ∙ before_weak.chain (own j) (own i) values rise e))

      no_more_by : (i j : ℕ) → is_before (own j) (own i) ≡ false → no_more values j ≡ true → no_more values i ≡ true
      no_more_by i j rise l =
          turned_le (row_cmp (own i) values) (row_cmp values (own i)) (row_cmp_total.antisymm (own i) values)
          (before_weak.chain values (own j) (own i) (le_turned (row_cmp (own j) values) (row_cmp values (own j)) (row_cmp_total.antisymm (own j) values) l) rise)

      pub less_first : IsPartitionedBy (less values) numbers
      less_first i j d ij l t =
          let a = get_or_default numbers i d 0 (omega (arith, ij, l)) in
          let b = get_or_default numbers j d 0 l in
          ap (less values) a ∙ less_by (get_or numbers i 0) (get_or numbers j 0) (rises i j ij l) (ap (less values) (sym b) ∙ t)

      pub no_more_first : (from : ℕ) → IsPartitionedBy (no_more values) (drop from numbers)
      no_more_first from i j d ij l t =
          let n = length-drop from numbers in
          let a = get_or-drop from numbers i d ∙ get_or_default numbers (from + i) d 0 (omega (arith, ij, l, n)) in
          let b = get_or-drop from numbers j d ∙ get_or_default numbers (from + j) d 0 (omega (arith, l, n)) in
          ap (no_more values) a ∙ no_more_by (get_or numbers (from + i) 0) (get_or numbers (from + j) 0)
          (rises (from + i) (from + j) (omega (arith, ij)) (omega (arith, l, n))) (ap (no_more values) (sym b) ∙ t)

      module _ (from len : ℕ) (begins : from ≤ length numbers) (ends : len ≤ length (drop from numbers))
          (first : IsPartitionPoint (λ i. less values i ≡ true) (λ i. less values i ≡ false) numbers from)
          (last : IsPartitionPoint (λ i. no_more values i ≡ true) (λ i. no_more values i ≡ false) (drop from numbers) len) where
        within : from + len ≤ length numbers
        within = let n = length-drop from numbers in omega (arith, begins, ends, n)

        long : length (take len (drop from numbers)) ≡ len
        long = let n = length-take len (drop from numbers) in grind (arith, n, ends)

        run_at : (k d : ℕ) → k < len → get_or (take len (drop from numbers)) k d ≡ get_or numbers (from + k) 0
        run_at k d l = get_or-take len (drop from numbers) k d l ∙ get_or-drop from numbers k d ∙ get_or_default numbers (from + k) d 0 (omega (arith, l, within))

        has_values : (k : ℕ) → k < len → own (get_or numbers (from + k) 0) ≡ values
        has_values k l = same_values (own (get_or numbers (from + k) 0)) values
            (first.1 (from + k) 0 (omega arith) (omega (arith, l, within)))
            (ap (no_more values) (sym (get_or-drop from numbers k 0)) ∙ last.0 k 0 (omega arith) l)

        next_number : (k : ℕ) → k + 1 < len → get_or numbers (from + k) 0 < get_or numbers (from + (k + 1)) 0
        next_number k l =
            let x = get_or numbers (from + k) 0 in
            let y = get_or numbers (from + (k + 1)) 0 in
            let same : row_cmp (own y) (own x) ≡ Equal =
            ap (λ r. row_cmp r (own x)) (has_values (k + 1) l ∙ sym (has_values k (omega (arith, l)))) ∙ tied_itself row_cmp_total (own x) in
            let far = sorted_far (λ i j. is_lt (number_cmp places tuples i j)) numbers_weak numbers order.sorted (from + k) (from + (k + 1)) 0
            (omega arith) (omega (arith, l, within)) in
            let le = not_less y x (ap (λ o. is_lt (ordering_then o (nat_cmp y x))) (sym same) ∙ far) in
            let apart = apart_from_distinct nat_eq numbers (from + k) (from + (k + 1)) 0 numbers_distinct (omega arith) (omega (arith, l, within)) in
            grind (arith, le, apart)

        pub run_is : IsRun places tuples values 0 (take len (drop from numbers))
        run_is = record {
          ascending = λ k l.
              let a = run_at k 0 (omega (arith, l, long)) in
              let b = run_at (k + 1) 0 (omega (arith, l, long)) in
              let next = next_number k (omega (arith, l, long)) in
              omega (arith, a, b, next);
          within = λ k d l.
              let a = run_at k d (omega (arith, l, long)) in
              let below = numbers_below (from + k) 0 (omega (arith, l, long, within)) in
              (omega arith, omega (arith, a, below));
          have = λ k d l. ap own (run_at k d (omega (arith, l, long))) ∙ has_values k (omega (arith, l, long));
          none_left = λ i lo hi same. there i same (number_there i hi);
        }
          where
            there : (i : ℕ) → own i ≡ values → Contains numbers i → Contains (take len (drop from numbers)) i
            there i same c =
                let k = c.0 in
                let l = c.1 in
                let is : get_or numbers k 0 ≡ i = sym (get_or_default numbers k i 0 l) ∙ c.2 in
                let equal : row_cmp (own (get_or numbers k 0)) values ≡ Equal =
                ap (λ x. row_cmp (own x) values) is ∙ ap (λ r. row_cmp r values) same ∙ tied_itself row_cmp_total values in
                let begun : from ≤ k = not_before k l equal in
                let ended : k < from + len = not_after k l begun equal in
                let a = run_at (k - from) i (omega (arith, begun, ended)) in
                let at : from + (k - from) ≡ k = omega (arith, begun) in
                (k - from, omega (arith, begun, ended, long), a ∙ ap (λ n. get_or numbers n 0) at ∙ is)
              where
                not_before : (k : ℕ) → k < length numbers → row_cmp (own (get_or numbers k 0)) values ≡ Equal → from ≤ k
                not_before k l e = elim (cases_lt k from) [
                  | inl t ↦ absurd (true≢false (sym (first.0 k 0 (omega arith) t) ∙ ap is_lt e))
                  | inr t ↦ t
                ]

                not_after : (k : ℕ) → k < length numbers → from ≤ k → row_cmp (own (get_or numbers k 0)) values ≡ Equal → k < from + len
                not_after k l begun e = elim (cases_lt k (from + len)) [
                  | inl t ↦ t
                  | inr t ↦ (
                      let n = length-drop from numbers in
                      let at : from + (k - from) ≡ k = omega (arith, begun) in
                      absurd (true≢false (sym (ap is_le e) ∙ ap (λ m. no_more values (get_or numbers m 0)) (sym at)
                      ∙ ap (no_more values) (sym (get_or-drop from numbers (k - from) 0))
                      ∙ last.1 (k - from) 0 (omega (arith, t, begun)) (omega (arith, l, n, begun)))))
                ]
