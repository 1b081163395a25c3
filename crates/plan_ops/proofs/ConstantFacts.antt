-- Constants by class: the first of each class, and the valuation that they give.
use Rattle.std.proofs.Common.{◌≡◌, ◌==◌, ◌&&◌, ◌<◌, ◌+◌, ℕ, zero, suc, Bool, true, false, not, cond, List, [], ◌∷◌, ◌++◌, length, get_or, take, map, All, if◌then◌else◌, inl, inr, refl, ap, sym, subst, ◌∙◌, arith, add-one}
use Rattle.std.specs.List.{list_all, filter}
use Rattle.std.proofs.Math.Seq.{take-suc}
use Rattle.std.proofs.lemmas.List.{map-append, length-map}
use Rattle.std.proofs.lemmas.List.Elements.{All-map}
use Rattle.std.proofs.lemmas.List.Folds.{list_all-append}
use Rattle.beas_core.specs.declared.value.Value.{Value}
use Rattle.beas_core.specs.declared.plan.Normal.{Normal}
use Rattle.beas_core.specs.Types.{Row, ClassSet, Binding, Bindings}
use Rattle.beas_core.specs.Order.{row_cmp}
use Rattle.beas_core.specs.Sets.{distinct}
use Rattle.beas_core.specs.Full.{same_value}
use Rattle.beas_core.specs.Valuations.{value_of, agrees, comparison_is_met, classes_in, valued_rows, as_bindings}
use Rattle.beas_core.proofs.Sets.{Has-get_or, Has-map}
use Rattle.beas_core.specs.Extensions.{meets_bound, keep_met}
use Rattle.beas_core.proofs.BindingFacts.{value_in_valuation, from_classes_in}
use Rattle.beas_core.proofs.ClassSetFacts.{has_below}
use Rattle.beas_core.proofs.ConsistencyFacts.{met_alike}
use Rattle.beas_core.proofs.MemberTests.{all_has, all_by, which}
use Rattle.plan_ops.specs.Over.{set_of}
use Rattle.plan_ops.specs.Places.{place_of, places_in}
use Rattle.plan_ops.proofs.BoundSets.{held_from}
use Rattle.plan_ops.proofs.TableFacts.{place_read}
use Rattle.plan_ops.proofs.PlaceFacts.{place-in}

length-firsts : (cs : Bindings) → length (map (λ c. c.0) cs) ≡ length cs
length-firsts [] = refl
length-firsts (c ∷ cs) = ap suc (length-firsts cs)

pub constant_there : (cs : Bindings) (i : ℕ) (d : Binding) → i < length cs → place_of (map (λ c. c.0) cs) (get_or cs i d).0 < length cs
constant_there cs i d l =
    let p = place-in (map (λ c. c.0) cs) (get_or cs i d).0 (Has-map (λ c. c.0) cs (get_or cs i d) (Has-get_or cs i d l)) in
    let n = length-firsts cs in
    omega (arith, p, n)

pub constant_value : (cs : Bindings) (c : ℕ) (d : Binding) → place_of (map (λ c. c.0) cs) c < length cs
    → (get_or cs (place_of (map (λ c. c.0) cs) c) d).1 ≡ value_of cs c
constant_value [] c d l = absurd (omega (arith, l))
constant_value (b ∷ cs) c d l = by (b.0 == c) l (constant_value cs c d)
  where
    next : (n : ℕ) → 1 + n ≡ suc n
    next n = omega arith

    by : (t : Bool) → cond (not t) (1 + place_of (map (λ c. c.0) cs) c) 0 < length (b ∷ cs)
        → (place_of (map (λ c. c.0) cs) c < length cs → (get_or cs (place_of (map (λ c. c.0) cs) c) d).1 ≡ value_of cs c)
        → (get_or (b ∷ cs) (cond (not t) (1 + place_of (map (λ c. c.0) cs) c) 0) d).1 ≡ cond t b.1 (value_of cs c)
    by true k rest = refl
    by false k rest = ap (λ n. (get_or (b ∷ cs) n d).1) (next (place_of (map (λ c. c.0) cs) c)) ∙ rest (omega (arith, k))

pub all_more : {K : Type 0} (p : K → Bool) (xs : List K) (i : ℕ) (d : K) → list_all p (take i xs) ≡ true → i < length xs → p (get_or xs i d) ≡ true
    → list_all p (take (i + 1) xs) ≡ true
all_more p xs i d so l h = ap (λ k. list_all p (take k xs)) (add-one i) ∙ ap (list_all p) (take-suc xs i d l)
    ∙ list_all-append p (take i xs) (get_or xs i d ∷ []) ∙ ap (λ b. b && (p (get_or xs i d) && true)) so ∙ ap (λ b. b && true) h

pub all_broken : {K : Type 0} (p : K → Bool) (xs : List K) (i : ℕ) (d : K) → i < length xs → p (get_or xs i d) ≡ false → list_all p xs ≡ false
all_broken p xs i d l h = elim (which (list_all p xs)) [
  | inl e ↦ (let t = all_has p xs (get_or xs i d) e (Has-get_or xs i d l) in cc)
  | inr e ↦ e
]

same_tests : (a b : Bool) → (a ≡ true → b ≡ true) → (b ≡ true → a ≡ true) → a ≡ b
same_tests true b f g = sym (f refl)
same_tests false true f g = g refl
same_tests false false f g = refl

module _ (normal : Normal) (set : ClassSet) (w : Bindings) where
  abbrev row : Row
  row = map (value_of w) (classes_in set)

  pub meets_alike : meets_bound normal set row ≡ list_all (comparison_is_met normal set w) normal.comparisons
  meets_alike = same_tests (meets_bound normal set row) (list_all (comparison_is_met normal set w) normal.comparisons)
      (λ h. all_by (comparison_is_met normal set w) normal.comparisons (λ c m.
      met_alike normal set (as_bindings set row) w (λ d k. value_in_valuation set w d k) c
      (all_has (comparison_is_met normal set (as_bindings set row)) normal.comparisons c h m)))
      (λ h. all_by (comparison_is_met normal set (as_bindings set row)) normal.comparisons (λ c m.
      met_alike normal set w (as_bindings set row) (λ d k. sym (value_in_valuation set w d k)) c
      (all_has (comparison_is_met normal set w) normal.comparisons c h m)))

  -- one way is valued by its own valuation, where it agrees with itself and this meets the comparisons
  pub one_valued : (rows : List Row) → rows ≡ (if agrees w then map (value_of w) (classes_in set) ∷ [] else [])
      → keep_met normal set rows ≡ valued_rows normal set (w ∷ [])
  one_valued rows e = ap (keep_met normal set) e ∙ by (agrees w) (list_all (comparison_is_met normal set w) normal.comparisons) meets_alike
    where
      by : (a m : Bool) → meets_bound normal set row ≡ m
          → filter (meets_bound normal set) (cond a (row ∷ []) [])
          ≡ distinct row_cmp (map (λ v. map (value_of v) (classes_in set)) (cond (a && m) (w ∷ []) []))
      by true true h = ap (λ b. cond b (row ∷ []) []) h
      by true false h = ap (λ b. cond b (row ∷ []) []) h
      by false m h = refl

pub from_not_false : (a : Bool) → not a ≡ false → a ≡ true
from_not_false true h = refl
from_not_false false h = sym h

pub mapped_more : {A B : Type 0} (f : A → B) (xs : List A) (i : ℕ) (d : A) (v : B) → i < length xs → v ≡ f (get_or xs i d)
    → map f (take i xs) ++ v ∷ [] ≡ map f (take (i + 1) xs)
mapped_more f xs i d v l e = ap (λ w. map f (take i xs) ++ w ∷ []) e ∙ sym (ap (λ k. map f (take k xs)) (add-one i) ∙ ap (map f) (take-suc xs i d l)
    ∙ map-append f (take i xs) (get_or xs i d ∷ []))

-- the constant that a table of first places finds for another one of its class
pub agrees_is : (cs : Bindings) (places : List ℕ) (count : ℕ) (item : Binding) (class : ℕ) (first : Binding) (i : ℕ)
    → All (λ c. c.0 < count) cs → places ≡ places_in count (map (λ c. c.0) cs) → i < length cs → item ≡ get_or cs i item → class ≡ item.0
    → first ≡ get_or cs (get_or places class 0) first
    → same_value item.1 first.1 ≡ same_value item.1 (value_of cs item.0)
agrees_is cs places count item class first i small table l is of_item found =
    let read = place_read count (map (λ c. c.0) cs) places item.0 class table of_item (subst (λ b. b.0 < count) (sym is) (small i item l)) in
    let there = subst (λ b. place_of (map (λ c. c.0) cs) b.0 < length cs) (sym is) (constant_there cs i item l) in
    ap (same_value item.1) (ap (λ b. b.1) found ∙ ap (λ n. (get_or cs n first).1) read ∙ constant_value cs item.0 first there)

-- the classes of the constants, each with a place among them
pub classes_small : (set : ClassSet) (n : ℕ) → length set ≡ n → All (λ class. class < n) (classes_in set)
classes_small set n e k d l =
    let b = has_below set (get_or (classes_in set) k d) (from_classes_in set (get_or (classes_in set) k d) (Has-get_or (classes_in set) k d l)) in
    omega (arith, b, e)

pub classes_placed : (normal : Normal) (cs : Bindings)
    → All (λ class. place_of (map (λ c. c.0) cs) class < length cs) (classes_in (set_of normal (map (λ c. c.0) cs)))
classes_placed normal cs k d l =
    let set = set_of normal (map (λ c. c.0) cs) in
    let class = get_or (classes_in set) k d in
    let p = place-in (map (λ c. c.0) cs) class (held_from normal (map (λ c. c.0) cs) class (from_classes_in set class (Has-get_or (classes_in set) k d l))) in
    let n = length-firsts cs in
    omega (arith, p, n)

pub constants_small : (count : ℕ) (cs : Bindings) → All (λ c. c.0 < count) cs → All (λ class. class < count) (map (λ c. c.0) cs)
constants_small count cs h = All-map (λ class. class < count) (λ c. c.0) cs h

-- a row or none has the width of its classes
pub one_wide : (b : Bool) (f : ℕ → Value) (classes : List ℕ) → All (λ row. length row ≡ length classes) (if b then map f classes ∷ [] else [])
one_wide true f classes zero d l = length-map classes f
one_wide true f classes (suc k) d l = absurd (omega (arith, l))
one_wide false f classes k d l = absurd (omega (arith, l))
