-- Where classes stand, and the values that rows have there.
use Rattle.std.proofs.Common.{◌≡◌, ◌==◌, ◌<◌, ◌≤◌, ◌+◌, ℕ, zero, suc, pos, ◌⊎◌, Bool, true, false, not, cond, ltb, List, [], ◌∷◌, length, get_or, Ok, Err, inl, inr, refl, ap, sym, ◌∙◌, arith, ◌++◌}
use Rattle.std.specs.List.{zip, range_with_len}
use Rattle.std.specs.List.Sorted.{IsBinarySearchResult}
use Rattle.std.specs.declared.cmp.Ordering.{Ordering}
use Rattle.std.specs.declared.cmp.Ordering.TheVariants.{Less, Equal, Greater}
use Rattle.std.specs.Ordering.{nat_cmp}
use Rattle.std.specs.Cmp.{nat_cmp_is}
use Rattle.std.proofs.lemmas.Bool.{eqb-true, ltb-true, ltb-false}
use Rattle.std.proofs.lemmas.List.Sorted.{searched}
use Rattle.std.proofs.lemmas.List.Sums.{position_or_len_is}
use Rattle.std.proofs.lemmas.Cmp.{ranked}
use Rattle.beas_core.specs.declared.value.Value.TheVariants.{Int}
use Rattle.beas_core.specs.Types.{Row, ClassSet}
use Rattle.beas_core.specs.Sets.{IsInOrder}
use Rattle.beas_core.specs.Coverage.{has}
use Rattle.beas_core.specs.Valuations.{value_of, classes_in}
use Rattle.beas_core.proofs.Sets.{Has, IsInOrder-filter, IsInOrder-at, all_from}
use Rattle.beas_core.proofs.BindingFacts.{Has-classes_in, from_classes_in, range_least}
use Rattle.beas_core.proofs.MemberTests.{which}
use Rattle.beas_core.proofs.UseFacts.{same_number}
use Rattle.plan_ops.specs.Places.{place_of}

-- the value that bindings give a class stands at the class's place
pub value_by_place : (cs : List ℕ) (vs : Row) (c : ℕ) → length vs ≤ length cs → value_of (zip cs vs) c ≡ get_or vs (place_of cs c) (Int (pos 0))
value_by_place [] [] c l = refl
value_by_place [] (v ∷ vs) c l = absurd (omega (arith, l))
value_by_place (d ∷ cs) [] c l = refl
value_by_place (d ∷ cs) (v ∷ vs) c l = by (d == c) (value_by_place cs vs c (omega arith))
  where
    by : (b : Bool) → value_of (zip cs vs) c ≡ get_or vs (place_of cs c) (Int (pos 0))
        → cond b v (value_of (zip cs vs) c) ≡ get_or (v ∷ vs) (cond (not b) (1 + place_of cs c) 0) (Int (pos 0))
    by true e = refl
    by false e = e ∙ ap (λ k. get_or (v ∷ vs) k (Int (pos 0))) (next (place_of cs c))
      where
        next : (n : ℕ) → suc n ≡ 1 + n
        next n = omega arith

pub place-in : (cs : List ℕ) (c : ℕ) → Has cs c → place_of cs c < length cs
place-in [] c h = absurd h
place-in (d ∷ cs) c h = by (d == c) refl h (place-in cs c)
  where
    by : (b : Bool) → (d == c) ≡ b → Has (d ∷ cs) c → (Has cs c → place_of cs c < length cs) → cond (not b) (1 + place_of cs c) 0 < length (d ∷ cs)
    by true e g rest = omega arith
    by false e (inl k) rest = let s = same_number d c (sym k) in cc
    by false e (inr k) rest = let r = rest k in omega (arith, r)

pub place-out : (cs : List ℕ) (c : ℕ) → (Has cs c → ⊥) → place_of cs c ≡ length cs
place-out [] c h = refl
place-out (d ∷ cs) c h = by (d == c) refl (place-out cs c (λ g. h (inr g)))
  where
    by : (b : Bool) → (d == c) ≡ b → place_of cs c ≡ length cs → cond (not b) (1 + place_of cs c) 0 ≡ length (d ∷ cs)
    by true e rest = absurd (h (inl (sym (eqb-true d c e))))
    by false e rest = omega (arith, rest)

pub in-place : (cs : List ℕ) (c : ℕ) → place_of cs c < length cs → Has cs c
in-place [] c l = absurd (omega (arith, l))
in-place (d ∷ cs) c l = by (d == c) refl l (in-place cs c)
  where
    by : (b : Bool) → (d == c) ≡ b → cond (not b) (1 + place_of cs c) 0 < length (d ∷ cs) → (place_of cs c < length cs → Has cs c) → Has (d ∷ cs) c
    by true e g rest = inl (sym (eqb-true d c e))
    by false e g rest = inr (rest (omega arith))

-- a class is in a set exactly where it has a place among the set's classes
pub bound_place : (set : ClassSet) (c : ℕ) → place_of (classes_in set) c < length (classes_in set) → has set c ≡ true
bound_place set c l = from_classes_in set c (in-place (classes_in set) c l)

pub open_place : (set : ClassSet) (c : ℕ) → place_of (classes_in set) c ≡ length (classes_in set) → has set c ≡ false
open_place set c e = elim (which (has set c)) [
  | inl h ↦ (let l = place-in (classes_in set) c (Has-classes_in set c h) in absurd (omega (arith, l, e)))
  | inr h ↦ h
]

less_is : (x y : ℕ) → x < y → nat_cmp x y ≡ Less
less_is x y l = sym (nat_cmp_is x y Less l)

range_rises : (a n : ℕ) → IsInOrder nat_cmp (range_with_len a n)
range_rises a zero = tt
range_rises a (suc n) = (
  all_from (λ y. nat_cmp a y ≡ Less) (range_with_len (a + 1) n) (λ y h. let l = range_least n (a + 1) y h in less_is a y (omega arith)),
  range_rises (a + 1) n,
)

distinct_places : (cs : List ℕ) → IsInOrder nat_cmp cs → (i j : ℕ) → i < j → j < length cs → get_or cs i 0 < get_or cs j 0
distinct_places cs o i j l m = by (nat_cmp (get_or cs i 0) (get_or cs j 0)) refl (IsInOrder-at nat_cmp cs i j 0 o l m)
  where
    by : (r : Ordering) → nat_cmp (get_or cs i 0) (get_or cs j 0) ≡ r → r ≡ Less → get_or cs i 0 < get_or cs j 0
    by Less e f = ranked (get_or cs i 0) (get_or cs j 0) Less (sym e)
    by Equal e f = cc
    by Greater e f = cc

pub same_or_below : (i j : ℕ) → i ≤ j → (i ≡ j) ⊎ (i < j)
same_or_below i j l = elim (which (i == j)) [
  | inl e ↦ inl (eqb-true i j e)
  | inr e ↦ inr (let ne : (i ≡ j → ⊥) = λ k. (let s = same_number i j k in differ s e) in omega (arith, ne))
]
  where
    differ : (i == j) ≡ true → (i == j) ≡ false → ⊥
    differ p q = cc

pub below_or_not : (k i : ℕ) → (k < i) ⊎ (i ≤ k)
below_or_not k i = elim (which (ltb k i)) [ inl e ↦ inl (ltb-true k i e) | inr e ↦ inr (ltb-false k i e) ]

-- a binary search finds the place
rises : (cs : List ℕ) → IsInOrder nat_cmp cs → (i j : ℕ) → i ≤ j → j < length cs → get_or cs i 0 ≤ get_or cs j 0
rises cs o i j l m = elim (same_or_below i j l) [
  | inl e ↦ (let same = ap (λ k. get_or cs k 0) e in omega (arith, same))
  | inr k ↦ (let less = distinct_places cs o i j k m in omega (arith, less))
]

pub found_place : (cs : List ℕ) (c i : ℕ) → IsInOrder nat_cmp cs → IsBinarySearchResult (λ y. nat_cmp y c) cs (Ok i) → i ≡ place_of cs c
found_place cs c i o r =
    let s = searched cs c (Ok i) r (rises cs o) in
    sym (position_or_len_is (λ d. d == c) cs i 0 (omega (arith, s))
    (λ k l. let less = distinct_places cs o k i l (omega (arith, s)) in other (get_or cs k 0) c (omega (arith, s, less)))
    (λ l. same_number (get_or cs i 0) c s.1))
  where
    other : (x y : ℕ) → x < y → (x == y) ≡ false
    other x y l = elim (which (x == y)) [ inl e ↦ (let k = eqb-true x y e in absurd (omega (arith, k, l))) | inr e ↦ e ]

pub no_place : (cs : List ℕ) (c i : ℕ) → IsInOrder nat_cmp cs → IsBinarySearchResult (λ y. nat_cmp y c) cs (Err i) → length cs ≡ place_of cs c
no_place cs c i o r =
    let s = searched cs c (Err i) r (rises cs o) in
    sym (position_or_len_is (λ d. d == c) cs (length cs) 0 (omega arith) (λ k l. elim (which (get_or cs k 0 == c)) [
      | inl e ↦ absurd (apart k l s (eqb-true (get_or cs k 0) c e))
      | inr e ↦ e
    ]) (λ l. absurd (omega (arith, l))))
  where
    apart : (k : ℕ) → k < length cs → (i ≤ length cs) × ((k : ℕ) → k < i → get_or cs k 0 < c) × ((k : ℕ) → i ≤ k → k < length cs → c < get_or cs k 0)
        → get_or cs k 0 ≡ c → ⊥
    apart k l s e = elim (below_or_not k i) [
      | inl b ↦ (let below = s.1 k b in omega (arith, below, e))
      | inr b ↦ (let above = s.2 k b l in omega (arith, above, e))
    ]

pub place-own : (cs : List ℕ) → IsInOrder nat_cmp cs → (i : ℕ) → i < length cs → place_of cs (get_or cs i 0) ≡ i
place-own cs o i l = position_or_len_is (λ d. d == get_or cs i 0) cs i 0 (omega arith)
    (λ k m. let less = distinct_places cs o k i m l in lesser (get_or cs k 0) (get_or cs i 0) less)
    (λ m. same_number (get_or cs i 0) (get_or cs i 0) refl)
  where
    lesser : (x y : ℕ) → x < y → (x == y) ≡ false
    lesser x y l = elim (which (x == y)) [ inl e ↦ (let k = eqb-true x y e in absurd (omega (arith, k, l))) | inr e ↦ e ]

pub place-front : (cs ds : List ℕ) (c : ℕ) → place_of cs c < length cs → place_of (cs ++ ds) c ≡ place_of cs c
place-front [] ds c l = absurd (omega (arith, l))
place-front (d ∷ cs) ds c l = by (d == c) l (place-front cs ds c)
  where
    by : (b : Bool) → cond (not b) (1 + place_of cs c) 0 < length (d ∷ cs) → (place_of cs c < length cs → place_of (cs ++ ds) c ≡ place_of cs c)
        → cond (not b) (1 + place_of (cs ++ ds) c) 0 ≡ cond (not b) (1 + place_of cs c) 0
    by true k rest = refl
    by false k rest = let r = rest (omega (arith, k)) in omega (arith, r)

pub classes_rise : (set : ClassSet) → IsInOrder nat_cmp (classes_in set)
classes_rise set = IsInOrder-filter nat_cmp (has set) (range_with_len 0 (length set)) (range_rises 0 (length set))

pub place-le : (cs : List ℕ) (c : ℕ) → place_of cs c ≤ length cs
place-le [] c = omega arith
place-le (d ∷ cs) c = by (d == c) (place-le cs c)
  where
    by : (b : Bool) → place_of cs c ≤ length cs → cond (not b) (1 + place_of cs c) 0 ≤ length (d ∷ cs)
    by true l = omega arith
    by false l = omega (arith, l)
