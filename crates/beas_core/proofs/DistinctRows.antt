-- A sorted list of rows with equal neighbours merged is the set in order.
use Rattle.std.proofs.Common.{◌≡◌, List, [], ◌∷◌, Bool, true, false, cond, refl, ap, ◌∙◌}
use Rattle.std.specs.Cmp.Lexicographic.{pointwise, lists_ties}
use Rattle.std.specs.List.{dedup, dedup_from}
use Rattle.std.specs.List.Retain.{IsFiltered, DiffersFromLast}
use Rattle.std.specs.List.Sorted.{IsPermutation, IsSorted}
use Rattle.std.specs.Ordering.{eq_by_cmp}
use Rattle.std.proofs.lemmas.List.Filters.{dedup_is}
use Rattle.beas_core.specs.declared.value.Value.{Value}
use Rattle.beas_core.specs.Order.{value_cmp, row_cmp, row_cmp_total}
use Rattle.beas_core.specs.Sets.{distinct}
use Rattle.beas_core.proofs.Sets.{distinct_by_sort}
use Rattle.beas_core.specs.Telling.{row_cmp_tells}

abbrev row_eq : List Value → List Value → Bool
row_eq = pointwise (eq_by_cmp value_cmp)

from : {X : Type 0} (E F : X → X → Bool) → ((x y : X) → E x y ≡ F x y) → (x : X) (ys : List X) → dedup_from E x ys ≡ dedup_from F x ys
from E F e x [] = refl
from {X} E F e x (y ∷ ys) = by (E y x) (F y x) (e y x) (from E F e x ys) (from E F e y ys)
  where
    by : (b c : Bool) → b ≡ c → dedup_from E x ys ≡ dedup_from F x ys → dedup_from E y ys ≡ dedup_from F y ys
        → cond b (dedup_from E x ys) (x ∷ dedup_from E y ys) ≡ cond c (dedup_from F x ys) (x ∷ dedup_from F y ys)
    by true true d g h = g
    by true false d g h = cc
    by false true d g h = cc
    by false false d g h = ap (λ t. x ∷ t) h

whole : {X : Type 0} (E F : X → X → Bool) → ((x y : X) → E x y ≡ F x y) → (xs : List X) → dedup E xs ≡ dedup F xs
whole E F e [] = refl
whole E F e (x ∷ xs) = from E F e x xs

pub distinct_from_sort : (xs ys zs : List (List Value)) → IsPermutation xs ys → IsSorted row_cmp ys → IsFiltered (DiffersFromLast row_eq) [] ys zs
    → zs ≡ distinct row_cmp xs
distinct_from_sort xs ys zs p s f =
    dedup_is row_eq ys zs f ∙ whole row_eq (eq_by_cmp row_cmp) (lists_ties value_cmp (λ x y. refl)) ys ∙ distinct_by_sort row_cmp_total row_cmp_tells xs ys p s
