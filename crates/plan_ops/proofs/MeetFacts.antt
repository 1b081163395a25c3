-- Which valuations meet comparisons, by the places of their classes.
use Rattle.std.proofs.Common.{◌≡◌, ◌&&◌, ◌||◌, ◌<◌, ◌+◌, ℕ, pos, Bool, true, false, not, cond, List, [], ◌∷◌, ◌++◌, length, get_or, take, map, All, inl, inr, refl, ap, sym, subst, ◌∙◌, arith, add-one}
use Rattle.std.proofs.Math.Seq.{take-suc}
use Rattle.std.specs.List.{filter, list_all}
use Rattle.beas_core.specs.declared.value.Value.{Value}
use Rattle.beas_core.specs.declared.value.Value.TheVariants.{Int}
use Rattle.beas_core.specs.declared.query.Operand.TheVariants.{At, Fixed}
use Rattle.beas_core.specs.declared.query.Place.{Place}
use Rattle.beas_core.specs.declared.query.Comparison.{Comparison}
use Rattle.beas_core.specs.declared.plan.Normal.{Normal}
use Rattle.beas_core.specs.Types.{Row, ClassSet, Bindings}
use Rattle.beas_core.specs.Order.{value_cmp}
use Rattle.beas_core.specs.Full.{comparison_holds, operand_value, sign_holds}
use Rattle.beas_core.specs.Groups.{project}
use Rattle.beas_core.specs.Coverage.{has, place_class}
use Rattle.beas_core.specs.Valuations.{value_of, operand_is_bound, comparison_is_bound, comparison_is_met, classes_in, as_bindings}
use Rattle.beas_core.proofs.Sets.{Has, Contains-from_has, Has-from_filter, Has-get_or}
use Rattle.beas_core.proofs.BindingFacts.{map_same}
use Rattle.beas_core.proofs.MemberTests.{and_both}
use Rattle.plan_ops.specs.Places.{place_of, column_of}
use Rattle.plan_ops.proofs.PlaceFacts.{value_by_place, bound_place, open_place}

pub filter_alike : {K : Type 0} (p q : K → Bool) (xs : List K) → ((x : K) → Has xs x → p x ≡ q x) → filter p xs ≡ filter q xs
filter_alike p q [] h = refl
filter_alike {K} p q (x ∷ xs) h = by (p x) (q x) (h x (inl refl)) (filter_alike p q xs (λ y k. h y (inr k)))
  where
    by : (a b : Bool) → a ≡ b → filter p xs ≡ filter q xs → cond a (x ∷ filter p xs) (filter p xs) ≡ cond b (x ∷ filter q xs) (filter q xs)
    by true true e r = ap (λ ys. x ∷ ys) r
    by true false e r = cc
    by false true e r = cc
    by false false e r = r

pub filter_true : {K : Type 0} (p : K → Bool) (xs : List K) → ((x : K) → Has xs x → p x ≡ true) → filter p xs ≡ xs
filter_true p [] h = refl
filter_true {K} p (x ∷ xs) h = by (p x) (h x (inl refl)) (filter_true p xs (λ y k. h y (inr k)))
  where
    by : (a : Bool) → a ≡ true → filter p xs ≡ xs → cond a (x ∷ filter p xs) (filter p xs) ≡ x ∷ xs
    by true e r = ap (λ ys. x ∷ ys) r
    by false e r = cc

filter-filter : {K : Type 0} (p q : K → Bool) (xs : List K) → filter p (filter q xs) ≡ filter (λ x. q x && p x) xs
filter-filter p q [] = refl
filter-filter {K} p q (x ∷ xs) = by (q x) (p x) refl (filter-filter p q xs)
  where
    by : (a b : Bool) → p x ≡ b → filter p (filter q xs) ≡ filter (λ x. q x && p x) xs
        → filter p (cond a (x ∷ filter q xs) (filter q xs)) ≡ cond (a && b) (x ∷ filter (λ x. q x && p x) xs) (filter (λ x. q x && p x) xs)
    by true true e r = ap (λ t. cond t (x ∷ filter p (filter q xs)) (filter p (filter q xs))) e ∙ ap (λ ys. x ∷ ys) r
    by true false e r = ap (λ t. cond t (x ∷ filter p (filter q xs)) (filter p (filter q xs))) e ∙ r
    by false b e r = r

pub wide_member : (n : ℕ) (rows : List Row) (row : Row) → All (λ r. length r ≡ n) rows → Has rows row → length row ≡ n
wide_member n rows row h m = let c = Contains-from_has rows row m in subst (λ r. length r ≡ n) c.2 (h c.0 row c.1)

all-push : {K : Type 0} (p : K → Bool) (xs : List K) (y : K) → list_all p (xs ++ y ∷ []) ≡ (list_all p xs && p y)
all-push p [] y = by (p y)
  where
    by : (a : Bool) → (a && true) ≡ a
    by true = refl
    by false = refl
all-push p (x ∷ xs) y = by (p x) (all-push p xs y)
  where
    by : (a : Bool) → list_all p (xs ++ y ∷ []) ≡ (list_all p xs && p y) → (a && list_all p (xs ++ y ∷ [])) ≡ ((a && list_all p xs) && p y)
    by true e = e
    by false e = refl

module _ (normal : Normal) (set : ClassSet) where
  met_open : (w : Bindings) (c : Comparison) → comparison_is_bound normal set c ≡ false → comparison_is_met normal set w c ≡ true
  met_open w c e = ap (λ b. not b || comparison_holds (λ p. value_of w (place_class normal p)) c) e

  met_bound : (w : Bindings) (c : Comparison) → comparison_is_bound normal set c ≡ true
      → comparison_is_met normal set w c ≡ comparison_holds (λ p. value_of w (place_class normal p)) c
  met_bound w c e = ap (λ b. not b || comparison_holds (λ p. value_of w (place_class normal p)) c) e

  module _ (classes : List ℕ) (are : classes ≡ classes_in set) (rows : List Row) (wide : All (λ row. length row ≡ length classes) rows) (c : Comparison) where
    abbrev place : ℕ → ℕ
    place class = place_of classes class

    is_bound : (class : ℕ) → place_of classes class < length classes → has set class ≡ true
    is_bound class l = bound_place set class (subst (λ cs. place_of cs class < length cs) are l)

    is_open : (class : ℕ) → place_of classes class ≡ length classes → has set class ≡ false
    is_open class e = open_place set class (subst (λ cs. place_of cs class ≡ length cs) are e)

    pub value_there : (row : Row) → Has rows row → (class : ℕ) → value_of (as_bindings set row) class ≡ get_or row (place_of classes class) (Int (pos 0))
    value_there row m class =
        let w = wide_member (length classes) rows row wide m in
        value_by_place (classes_in set) row class (omega (arith, w, ap length are))
        ∙ ap (λ cs. get_or row (place_of cs class) (Int (pos 0))) (sym are)

    abbrev met : Row → Bool
    met row = comparison_is_met normal set (as_bindings set row) c

    pub left_open : place_of classes (place_class normal c.left) ≡ length classes
        → rows ≡ filter (λ row. comparison_is_met normal set (as_bindings set row) c) rows
    left_open e = sym (filter_true met rows (λ row m. met_open (as_bindings set row) c
        (ap (λ b. b && operand_is_bound normal set c.right) (is_open (place_class normal c.left) e))))

    pub fixed_side : (v : Value) → c.right ≡ Fixed v → place_of classes (place_class normal c.left) < length classes
        → filter (λ row. sign_holds c.sign (value_cmp (get_or row (place_of classes (place_class normal c.left)) (Int (pos 0))) v)) rows
        ≡ filter (λ row. comparison_is_met normal set (as_bindings set row) c) rows
    fixed_side v e l = filter_alike
        (λ row. sign_holds c.sign (value_cmp (get_or row (place_of classes (place_class normal c.left)) (Int (pos 0))) v))
        met rows (λ row m. sym (met_bound (as_bindings set row) c
        (and_both (has set (place_class normal c.left)) (operand_is_bound normal set c.right) (is_bound (place_class normal c.left) l)
        (ap (operand_is_bound normal set) e))
        ∙ ap (λ x. sign_holds c.sign (value_cmp x (operand_value (λ p. value_of (as_bindings set row) (place_class normal p)) c.right)))
        (value_there row m (place_class normal c.left))
        ∙ ap (λ o. sign_holds c.sign (value_cmp (get_or row (place (place_class normal c.left)) (Int (pos 0)))
        (operand_value (λ p. value_of (as_bindings set row) (place_class normal p)) o))) e))

    pub pair_side : (q : Place) → c.right ≡ At q → place_of classes (place_class normal c.left) < length classes
        → place_of classes (place_class normal q) < length classes
        → filter (λ row. sign_holds c.sign (value_cmp (get_or row (place_of classes (place_class normal c.left)) (Int (pos 0)))
        (get_or row (place_of classes (place_class normal q)) (Int (pos 0))))) rows
        ≡ filter (λ row. comparison_is_met normal set (as_bindings set row) c) rows
    pair_side q e l k = filter_alike
        (λ row. sign_holds c.sign (value_cmp (get_or row (place_of classes (place_class normal c.left)) (Int (pos 0)))
        (get_or row (place_of classes (place_class normal q)) (Int (pos 0)))))
        met rows (λ row m. sym (met_bound (as_bindings set row) c
        (and_both (has set (place_class normal c.left)) (operand_is_bound normal set c.right) (is_bound (place_class normal c.left) l)
        (ap (operand_is_bound normal set) e ∙ is_bound (place_class normal q) k))
        ∙ ap (λ x. sign_holds c.sign (value_cmp x (operand_value (λ p. value_of (as_bindings set row) (place_class normal p)) c.right)))
        (value_there row m (place_class normal c.left))
        ∙ ap (λ o. sign_holds c.sign (value_cmp (get_or row (place (place_class normal c.left)) (Int (pos 0)))
        (operand_value (λ p. value_of (as_bindings set row) (place_class normal p)) o))) e
        ∙ ap (λ x. sign_holds c.sign (value_cmp (get_or row (place (place_class normal c.left)) (Int (pos 0))) x))
        (value_there row m (place_class normal q))))

    pub right_open : (q : Place) → c.right ≡ At q → place_of classes (place_class normal q) ≡ length classes
        → rows ≡ filter (λ row. comparison_is_met normal set (as_bindings set row) c) rows
    right_open q e l = sym (filter_true met rows (λ row m. met_open (as_bindings set row) c
        (ap (λ b. has set (place_class normal c.left) && b) (ap (operand_is_bound normal set) e ∙ is_open (place_class normal q) l)
        ∙ and_false (has set (place_class normal c.left)))))
      where
        and_false : (b : Bool) → (b && false) ≡ false
        and_false true = refl
        and_false false = refl

  -- the rows that meet the first comparisons
  abbrev pub kept_by : List Comparison → List Row → List Row
  kept_by comparisons rows = filter (λ row. list_all (comparison_is_met normal set (as_bindings set row)) comparisons) rows

  pub kept_by_none : (rows : List Row) → rows ≡ kept_by [] rows
  kept_by_none rows = sym (filter_true (λ row. true) rows (λ row m. refl))

  pub kept_by_more : (comparisons : List Comparison) (rows : List Row) (i : ℕ) (d : Comparison) → i < length comparisons
      → filter (λ row. comparison_is_met normal set (as_bindings set row) (get_or comparisons i d)) (kept_by (take i comparisons) rows)
      ≡ kept_by (take (i + 1) comparisons) rows
  kept_by_more comparisons rows i d l =
      filter-filter (λ row. comparison_is_met normal set (as_bindings set row) (get_or comparisons i d))
      (λ row. list_all (comparison_is_met normal set (as_bindings set row)) (take i comparisons)) rows
      ∙ filter_alike (λ row. list_all (comparison_is_met normal set (as_bindings set row)) (take i comparisons)
      && comparison_is_met normal set (as_bindings set row) (get_or comparisons i d))
      (λ row. list_all (comparison_is_met normal set (as_bindings set row)) (take (i + 1) comparisons)) rows
      (λ row m. sym (ap (λ k. list_all (comparison_is_met normal set (as_bindings set row)) (take k comparisons)) (add-one i)
      ∙ ap (list_all (comparison_is_met normal set (as_bindings set row))) (take-suc comparisons i d l)
      ∙ all-push (comparison_is_met normal set (as_bindings set row)) (take i comparisons) (get_or comparisons i d)))

pub kept_wide : (n : ℕ) (p : Row → Bool) (rows : List Row) → All (λ row. length row ≡ n) rows → All (λ row. length row ≡ n) (filter p rows)
kept_wide n p rows h k d l = wide_member n rows (get_or (filter p rows) k d) h (Has-from_filter p rows (get_or (filter p rows) k d) (Has-get_or
    (filter p rows) k d l)).0

module _ (normal : Normal) (set : ClassSet) where
  pub kept_by_item : (comparisons items : List Comparison) (rows : List Row) (i : ℕ) (item : Comparison) → items ≡ comparisons → i < length items
      → item ≡ get_or items i item
      → filter (λ row. comparison_is_met normal set (as_bindings set row) item) (kept_by normal set (take i comparisons) rows)
      ≡ kept_by normal set (take (i + 1) comparisons) rows
  kept_by_item comparisons items rows i item e l is =
      ap (λ c. filter (λ row. comparison_is_met normal set (as_bindings set row) c) (kept_by normal set (take i comparisons) rows))
      (is ∙ ap (λ cs. get_or cs i item) e)
      ∙ kept_by_more normal set comparisons rows i item (subst (λ cs. i < length cs) e l)

-- the values of some classes stand in the classes' columns
pub picked_values : {A : Type 0} (set : ClassSet) (classes : List ℕ) (f : A → ℕ) (xs : List A) (row : Row) → classes ≡ classes_in set
    → length row ≡ length classes → project (map (λ x. column_of classes (f x)) xs) row ≡ map (λ x. value_of (as_bindings set row) (f x)) xs
picked_values set classes f [] row are wide = refl
picked_values set classes f (x ∷ xs) row are wide =
    let first = value_by_place (classes_in set) row (f x) (omega (arith, wide, ap length are))
    ∙ ap (λ cs. get_or row (place_of cs (f x)) (Int (pos 0))) (sym are) in
    let rest = picked_values set classes f xs row are wide in
    ap (λ v. v ∷ project (map (λ x. column_of classes (f x)) xs) row) (sym first)
    ∙ ap (λ vs. value_of (as_bindings set row) (f x) ∷ vs) rest

pub all_picked : {A : Type 0} (set : ClassSet) (classes : List ℕ) (f : A → ℕ) (xs : List A) (rows : List Row) → classes ≡ classes_in set
    → All (λ row. length row ≡ length classes) rows
    → map (project (map (λ x. column_of classes (f x)) xs)) rows ≡ map (λ row. map (λ x. value_of (as_bindings set row) (f x)) xs) rows
all_picked set classes f xs rows are wide =
    map_same (project (map (λ x. column_of classes (f x)) xs)) (λ row. map (λ x. value_of (as_bindings set row) (f x)) xs) rows
    (λ row m. picked_values set classes f xs row are (wide_member (length classes) rows row wide m))
