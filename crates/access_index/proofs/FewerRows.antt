-- A constraint holds over some of the rows over which it holds.
use Rattle.std.proofs.Common.{◌≡◌, ◌≤◌, Bool, List, [], ◌∷◌, ◌++◌, map, length, ap, sym, subst, arith, inl, inr}
use Rattle.std.specs.Prelude.{filter}
use Rattle.std.specs.Cmp.{IsTotalOrder}
use Rattle.std.specs.List.Sorted.{IsPermutation}
use Rattle.std.proofs.lemmas.List.Sorted.{Contains-permutation, IsPermutation-sym}
use Rattle.std.specs.declared.cmp.Ordering.{Ordering}
use Rattle.beas_core.specs.declared.schema.Access.{Access}
use Rattle.beas_core.specs.Order.{row_cmp_total, TellsApart}
use Rattle.beas_core.specs.Sets.{distinct}
use Rattle.beas_core.specs.Types.{Row}
use Rattle.beas_core.specs.Groups.{Holds, project, same_row}
use Rattle.beas_core.proofs.Sets.{Has, Has-append_cases, Has-append_left, Has-map, Has-from_map, Has-filter, Has-from_filter, distinct_same, length-add-ge}
use Rattle.beas_core.proofs.Sets.{Has-from_contains, Contains-from_has}
use Rattle.beas_core.proofs.ValueOrder.{row_cmp_tells}

module _ {K : Type 0} {cmp : K → K → Ordering} (o : IsTotalOrder cmp) (tells : TellsApart cmp) where
  more : (zs ys : List K) → length (distinct cmp ys) ≤ length (distinct cmp (zs ++ ys))
  more [] ys = omega arith
  more (z ∷ zs) ys = omega (arith, more zs ys, length-add-ge o tells z (distinct cmp (zs ++ ys)))

  -- a set has at most as many members as one that holds them all
  length-distinct_within : (xs ys : List K) → ((y : K) → Has ys y → Has xs y) → length (distinct cmp ys) ≤ length (distinct cmp xs)
  length-distinct_within xs ys within =
      let same : distinct cmp (xs ++ ys) ≡ distinct cmp xs = distinct_same o tells (xs ++ ys) xs
      (λ y. (λ g. elim (Has-append_cases xs ys y g) [ inl h ↦ h | inr h ↦ within y h ], λ g. Has-append_left xs ys y g)) in
      omega (arith, more xs ys, ap length same)

-- so a constraint that holds over all rows does over any of them
pub Holds-within : (all some : List Row) (access : Access) → ((row : Row) → Has some row → Has all row) → Holds all access → Holds some access
Holds-within all some access among h value =
    let tuple = project (access.key ++ access.fetched) in
    let mine = λ (row : Row). same_row (project access.key row) value in
    let fewer = length-distinct_within row_cmp_total row_cmp_tells (map tuple (filter mine all)) (map tuple (filter mine some))
    (λ y g. let m = Has-from_map tuple (filter mine some) y g in
    let f = Has-from_filter mine some m.0 m.1 in
    subst (Has (map tuple (filter mine all))) (sym m.2) (Has-map tuple (filter mine all) m.0 (Has-filter mine all m.0 (among m.0 f.0) f.1))) in
    omega (arith, fewer, h value)

pub Holds-filter : (p : Row → Bool) (rows : List Row) (access : Access) → Holds rows access → Holds (filter p rows) access
Holds-filter p rows access h = Holds-within rows (filter p rows) access (λ row g. (Has-from_filter p rows row g).0) h

-- the first rows of all
pub Holds-front : (front back : List Row) (access : Access) → Holds (front ++ back) access → Holds front access
Holds-front front back access h = Holds-within (front ++ back) front access (λ row g. Has-append_left front back row g) h

-- the rows in another order
pub Holds-permutation : (xs ys : List Row) (access : Access) → IsPermutation xs ys → Holds xs access → Holds ys access
Holds-permutation xs ys access p h =
    Holds-within xs ys access (λ row g. Has-from_contains xs row (Contains-permutation ys xs row (IsPermutation-sym xs ys p) (Contains-from_has ys row g))) h
