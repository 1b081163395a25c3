-- The greatest group: one row more, and the same rows in another order.
use Rattle.std.proofs.Common.{◌≡◌, ◌≤◌, ℕ, max, Bool, true, false, List, [], ◌∷◌, ◌++◌, length, map, refl, ap, sym, subst, arith}
use Rattle.std.specs.List.{filter}
use Rattle.std.specs.List.Sorted.{IsPermutation}
use Rattle.std.proofs.lemmas.List.Sorted.{Contains-permutation, IsPermutation-sym}
use Rattle.beas_core.specs.declared.value.Value.{Value}
use Rattle.beas_core.specs.declared.schema.Access.{Access}
use Rattle.beas_core.specs.declared.schema.ColumnId.{ColumnId}
use Rattle.beas_core.specs.Order.{row_cmp_total}
use Rattle.beas_core.specs.Groups.{project, same_row, group, greatest}
use Rattle.beas_core.proofs.ValueOrder.{row_cmp_tells}
use Rattle.beas_core.proofs.Sets.{Has, Has-from_contains, Contains-from_has, Has-map, Has-from_map, Has-filter, Has-from_filter, SameMembers, distinct_same, length-add-ge}
use Rattle.beas_core.proofs.Groups.{same_row_true, group_push_own, group_push_other, group_le-greatest, greatest-from_Holds}

-- a number that bounds every group bounds the greatest one
pub greatest-le : (rows : List (List Value)) (key fetched : List ColumnId) (most : ℕ) → ((value : List Value) → length (group rows key fetched value) ≤ most)
    → greatest rows key fetched ≤ most
greatest-le rows key fetched most h = greatest-from_Holds rows access h
  where
    access : Access
    access = record { id = record { 0 = 0 }; name = []; table = record { 0 = 0 }; key = key; fetched = fetched; bound = most }

module _ (rows : List (List Value)) (row : List Value) (key fetched : List ColumnId) where
  abbrev all : List (List Value)
  all = rows ++ row ∷ []

  abbrev own : ℕ
  own = length (group all key fetched (project key row))

  group_grows : (value : List Value) → length (group rows key fetched value) ≤ length (group all key fetched value)
  group_grows value = by (same_row (project key row) value) refl
    where
      by : (b : Bool) → same_row (project key row) value ≡ b → length (group rows key fetched value) ≤ length (group all key fetched value)
      by true e =
          let P : List Value → Type 0 = λ v. length (group rows key fetched v) ≤ length (group all key fetched v) in
          let grown = length-add-ge row_cmp_total row_cmp_tells (project (key ++ fetched) row) (group rows key fetched (project key row)) in
          subst P (same_row_true (project key row) value e) (omega (arith, grown, ap length (group_push_own rows key fetched row)))
      by false e = omega (arith, ap length (group_push_other rows key fetched row value e))

  group_within : (value : List Value) → length (group all key fetched value) ≤ max (greatest rows key fetched) own
  group_within value = by (same_row (project key row) value) refl
    where
      by : (b : Bool) → same_row (project key row) value ≡ b → length (group all key fetched value) ≤ max (greatest rows key fetched) own
      by true e =
          let P : List Value → Type 0 = λ v. length (group all key fetched v) ≤ max (greatest rows key fetched) own in
          subst P (same_row_true (project key row) value e) (omega arith)
      by false e = omega (arith, ap length (group_push_other rows key fetched row value e), group_le-greatest rows key fetched value)

  pub greatest_push : greatest all key fetched ≡ max (greatest rows key fetched) own
  greatest_push =
      let most = greatest-le all key fetched (max (greatest rows key fetched) own) group_within in
      let old = greatest-le rows key fetched (greatest all key fetched) (λ value. omega (arith, group_grows value, group_le-greatest all key fetched value)) in
      let new = group_le-greatest all key fetched (project key row) in
      omega (arith, most, old, new)

-- groups are known by the rows, whatever their order
group_same : (xs ys : List (List Value)) (key fetched : List ColumnId) (value : List Value) → SameMembers xs ys
    → group xs key fetched value ≡ group ys key fetched value
group_same xs ys key fetched value m =
    distinct_same row_cmp_total row_cmp_tells (map (project (key ++ fetched)) (filter is_in xs)) (map (project (key ++ fetched)) (filter is_in ys))
    (λ t. (moved xs ys (λ y. (m y).0) t, moved ys xs (λ y. (m y).1) t))
  where
    is_in : List Value → Bool
    is_in row = same_row (project key row) value

    moved : (before after : List (List Value)) → ((y : List Value) → Has before y → Has after y) → (t : List Value)
        → Has (map (project (key ++ fetched)) (filter is_in before)) t → Has (map (project (key ++ fetched)) (filter is_in after)) t
    moved before after f t h =
        let r = Has-from_map (project (key ++ fetched)) (filter is_in before) t h in
        let k = Has-from_filter is_in before r.0 r.1 in
        subst (Has (map (project (key ++ fetched)) (filter is_in after))) (sym r.2)
        (Has-map (project (key ++ fetched)) (filter is_in after) r.0 (Has-filter is_in after r.0 (f r.0 k.0) k.1))

greatest_same-le : (xs ys : List (List Value)) (key fetched : List ColumnId) → SameMembers xs ys → greatest xs key fetched ≤ greatest ys key fetched
greatest_same-le xs ys key fetched m =
    greatest-le xs key fetched (greatest ys key fetched) (λ value. omega
    (arith, ap length (group_same xs ys key fetched value m), group_le-greatest ys key fetched value))

pub same_from_permutation : {K : Type 0} (xs ys : List K) → IsPermutation xs ys → SameMembers xs ys
same_from_permutation xs ys p y = (
  λ h. Has-from_contains ys y (Contains-permutation xs ys y p (Contains-from_has xs y h)),
  λ h. Has-from_contains xs y (Contains-permutation ys xs y (IsPermutation-sym xs ys p) (Contains-from_has ys y h)),
)

pub greatest_same : (xs ys : List (List Value)) (key fetched : List ColumnId) → SameMembers xs ys → greatest xs key fetched ≡ greatest ys key fetched
greatest_same xs ys key fetched m =
    let a = greatest_same-le xs ys key fetched m in
    let b = greatest_same-le ys xs key fetched (λ y. ((m y).1, (m y).0)) in
    omega (arith, a, b)

-- the same members under a map
pub mapped_same : {J K : Type 0} (f : J → K) (xs ys : List J) → SameMembers xs ys → SameMembers (map f xs) (map f ys)
mapped_same {J} {K} f xs ys m y = (moved xs ys (λ x. (m x).0), moved ys xs (λ x. (m x).1))
  where
    moved : (before after : List J) → ((x : J) → Has before x → Has after x) → Has (map f before) y → Has (map f after) y
    moved before after g h = let r = Has-from_map f before y h in subst (Has (map f after)) (sym r.2) (Has-map f after r.0 (g r.0 r.1))
