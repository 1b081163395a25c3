-- Sets of classes and the lists of their classes.
--     bound_set_is      the set that valuations over a set bind is this set
use Rattle.std.proofs.Common.{◌≡◌, ◌<◌, ◌≤◌, ◌+◌, ℕ, zero, suc, Bool, true, false, cond, ltb, List, [], ◌∷◌, ◌++◌, length, replicate, inl, inr, refl, ap, sym, subst, ◌∙◌, arith}
use Rattle.std.specs.List.{filter, range_with_len}
use Rattle.std.proofs.lemmas.Bool.{ltb-true, ltb-false}
use Rattle.std.proofs.lemmas.List.{length-replicate, append-nil}
use Rattle.std.proofs.lemmas.List.FromFn.{length-range_with_len}
use Rattle.std.proofs.lemmas.List.Elements.{filter-append}
use Rattle.beas_core.specs.declared.plan.Normal.{Normal}
use Rattle.beas_core.specs.Types.{ClassSet}
use Rattle.beas_core.specs.Coverage.{has}
use Rattle.beas_core.specs.Valuations.{classes_in}
use Rattle.beas_core.proofs.Sets.{Has}
use Rattle.beas_core.proofs.BindingFacts.{Has-classes_in, from_classes_in}
use Rattle.beas_core.proofs.ClassSetFacts.{length-with, has_below, has-with_new, has-with_cases}
use Rattle.beas_core.proofs.MemberTests.{which}
use Rattle.beas_core.proofs.SetSizes.{length-filter_le}
use Rattle.plan_ops.specs.declared.valuations.Valuations.{Valuations}
use Rattle.plan_ops.specs.Over.{set_of, bound_set, IsOver}
use Rattle.plan_ops.specs.Places.{place_of}
use Rattle.plan_ops.proofs.PlaceFacts.{place-in, in-place}

pub is_below : (k n : ℕ) → k < n → ltb k n ≡ true
is_below k n l = elim (which (ltb k n)) [ inl e ↦ e | inr e ↦ absurd (let m = ltb-false k n e in omega (arith, m, l)) ]

pub is_above : (k n : ℕ) → n ≤ k → ltb k n ≡ false
is_above k n l = elim (which (ltb k n)) [ inl e ↦ absurd (let m = ltb-true k n e in omega (arith, m, l)) | inr e ↦ e ]

none_held : (n c : ℕ) → has (replicate n false) c ≡ false
none_held zero c = refl
none_held (suc n) zero = refl
none_held (suc n) (suc c) = none_held n c

same_tests : (a b : Bool) → (a ≡ true → b ≡ true) → (b ≡ true → a ≡ true) → a ≡ b
same_tests true b f g = sym (f refl)
same_tests false true f g = g refl
same_tests false false f g = refl

pub same_sets_of : (s t : ClassSet) → length s ≡ length t → ((c : ℕ) → has s c ≡ has t c) → s ≡ t
same_sets_of [] [] l h = refl
same_sets_of [] (b ∷ t) l h = absurd (omega (arith, l))
same_sets_of (a ∷ s) [] l h = absurd (omega (arith, l))
same_sets_of (a ∷ s) (b ∷ t) l h =
    let first : a ≡ b = h 0 in
    let rest = same_sets_of s t (omega arith) (λ c. h (suc c)) in
    cc

module _ (normal : Normal) where
  pub counted : (classes : List ℕ) → length (set_of normal classes) ≡ normal.count
  counted classes = length-with classes (replicate normal.count false) ∙ length-replicate normal.count false

  pub held_from : (classes : List ℕ) (c : ℕ) → has (set_of normal classes) c ≡ true → Has classes c
  held_from classes c h = elim (has-with_cases classes (replicate normal.count false) c h) [
    | inl g ↦ (let none = none_held normal.count c in cc)
    | inr g ↦ g
  ]

  pub held_to : (classes : List ℕ) (c : ℕ) → Has classes c → c < normal.count → has (set_of normal classes) c ≡ true
  held_to classes c h l = has-with_new classes (replicate normal.count false) c h (subst (λ n. c < n) (sym (length-replicate normal.count false)) l)

  -- a class is in the set of some classes exactly where it has a place among them
  pub held_by_place : (classes : List ℕ) (c : ℕ) → c < normal.count → has (set_of normal classes) c ≡ ltb (place_of classes c) (length classes)
  held_by_place classes c l = same_tests (has (set_of normal classes) c) (ltb (place_of classes c) (length classes))
      (λ h. is_below (place_of classes c) (length classes) (place-in classes c (held_from classes c h)))
      (λ h. held_to classes c (in-place classes c (ltb-true (place_of classes c) (length classes) h)) l)

  pub set_again : (set : ClassSet) → length set ≡ normal.count → set_of normal (classes_in set) ≡ set
  set_again set e = same_sets_of (set_of normal (classes_in set)) set (counted (classes_in set) ∙ sym e) (λ c.
      same_tests (has (set_of normal (classes_in set)) c) (has set c)
      (λ h. from_classes_in set c (held_from (classes_in set) c h))
      (λ h. held_to (classes_in set) c (Has-classes_in set c h) (subst (λ n. c < n) e (has_below set c h))))

  pub bound_set_is : (set : ClassSet) (from : Valuations) → length set ≡ normal.count → IsOver set from → bound_set normal from ≡ set
  bound_set_is set from e over = ap (set_of normal) over.classes_are ∙ set_again set e

pub few_classes : (set : ClassSet) → length (classes_in set) ≤ length set
few_classes set =
    let f = length-filter_le (has set) (range_with_len 0 (length set)) in
    let n = length-range_with_len 0 (length set) in
    omega (arith, f, n)

pub range-push : (a n : ℕ) → range_with_len a (n + 1) ≡ range_with_len a n ++ (a + n) ∷ []
range-push a zero = ap (λ k. k ∷ []) (plus_zero a)
  where
    plus_zero : (a : ℕ) → a ≡ a + 0
    plus_zero a = omega arith
range-push a (suc n) = ap (range_with_len a) (next n)
    ∙ ap (λ ks. a ∷ ks) (range-push (a + 1) n ∙ ap (λ k. range_with_len (a + 1) n ++ k ∷ []) (moved a n))
  where
    next : (n : ℕ) → suc n + 1 ≡ suc (n + 1)
    next n = omega arith

    moved : (a n : ℕ) → (a + 1) + n ≡ a + suc n
    moved a n = omega arith

-- one class more of a set
pub class_held : (set : ClassSet) (n : ℕ) → has set n ≡ true → filter (has set) (range_with_len 0 n) ++ n ∷ [] ≡ filter (has set) (range_with_len 0 (n + 1))
class_held set n h = sym (ap (filter (has set)) (range-push 0 n) ∙ filter-append (has set) (range_with_len 0 n) ((0 + n) ∷ [])
    ∙ ap (λ ks. filter (has set) (range_with_len 0 n) ++ ks) (one (0 + n) (zero_plus n)))
  where
    zero_plus : (n : ℕ) → 0 + n ≡ n
    zero_plus n = omega arith

    one : (k : ℕ) → k ≡ n → filter (has set) (k ∷ []) ≡ n ∷ []
    one k e = ap (λ j. filter (has set) (j ∷ [])) e ∙ ap (λ b. cond b (n ∷ []) []) h

pub class_open : (set : ClassSet) (n : ℕ) → has set n ≡ false → filter (has set) (range_with_len 0 n) ≡ filter (has set) (range_with_len 0 (n + 1))
class_open set n h = sym (ap (filter (has set)) (range-push 0 n) ∙ filter-append (has set) (range_with_len 0 n) ((0 + n) ∷ [])
    ∙ ap (λ ks. filter (has set) (range_with_len 0 n) ++ ks) (one (0 + n) (zero_plus n)) ∙ append-nil (filter (has set) (range_with_len 0 n)))
  where
    zero_plus : (n : ℕ) → 0 + n ≡ n
    zero_plus n = omega arith

    one : (k : ℕ) → k ≡ n → filter (has set) (k ∷ []) ≡ []
    one k e = ap (λ j. filter (has set) (j ∷ [])) e ∙ ap (λ b. cond b (n ∷ []) []) h
