-- Groups of rows with the same members.
use Rattle.std.proofs.Common.{◌≡◌, ◌+◌, ◌∙◌, ℕ, List, [], ◌∷◌, map, take, ap, refl, subst, sym}
use Rattle.std.specs.Prelude.{Contains}
use Rattle.std.specs.List.{enumerate_from}
use Rattle.beas_core.specs.Groups.{same_row}
use Rattle.beas_core.specs.Order.{value_cmp_total, row_cmp_total}
use Rattle.beas_core.specs.Types.{Row}
use Rattle.beas_core.proofs.Sets.{Has, Has-from_contains, Contains-from_has, Has-map, Has-from_map, Has-filter, Has-from_filter, SameMembers, distinct_same}
use Rattle.beas_core.proofs.ValueOrder.{row_cmp_tells, value_cmp_tells}
use Rattle.beas_core.proofs.BindingFacts.{map_same}
use Rattle.aggregate.specs.declared.cell.Fold.{Fold}
use Rattle.aggregate.specs.Grouping.{cell_of, cells_of, column_of, group_at, grouped_rows, keys_of, values_in}

abbrev pub SameRows : List Row → List Row → Type 0
SameRows xs ys = (row : Row) → (Contains xs row → Contains ys row) × (Contains ys row → Contains xs row)

members_are : (xs ys : List Row) → SameRows xs ys → SameMembers xs ys
members_are xs ys same row =
    (λ m. Has-from_contains ys row ((same row).0 (Contains-from_has xs row m)), λ m. Has-from_contains xs row ((same row).1 (Contains-from_has ys row m)))

moved : {A B : Type 0} (f : A → B) (xs ys : List A) → ((x : A) → Has xs x → Has ys x) → (y : B) → Has (map f xs) y → Has (map f ys) y
moved f xs ys to y m = let r = Has-from_map f xs y m in subst (Has (map f ys)) (sym r.2) (Has-map f ys r.0 (to r.0 r.1))

maps_are : {A B : Type 0} (f : A → B) (xs ys : List A) → SameMembers xs ys → SameMembers (map f xs) (map f ys)
maps_are f xs ys same y = (moved f xs ys (λ x. (same x).0) y, moved f ys xs (λ x. (same x).1) y)

groups_are : (keys : ℕ) (xs ys : List Row) (key : Row) → SameMembers xs ys → SameMembers (group_at keys xs key) (group_at keys ys key)
groups_are keys xs ys key same row = (by xs ys (λ x. (same x).0), by ys xs (λ x. (same x).1))
  where
    by : (zs ws : List Row) → ((x : Row) → Has zs x → Has ws x) → Has (group_at keys zs key) row → Has (group_at keys ws key) row
    by zs ws to m =
        let r = Has-from_filter (λ (x : Row). same_row key (take keys x)) zs row m in
        Has-filter (λ (x : Row). same_row key (take keys x)) ws row (to row r.0) r.1

values_are : (column : ℕ) (xs ys : List Row) → SameMembers xs ys → values_in column xs ≡ values_in column ys
values_are column xs ys same =
    distinct_same value_cmp_total value_cmp_tells (map (column_of column) xs) (map (column_of column) ys) (maps_are (column_of column) xs ys same)

cells_are : (keys : ℕ) (folds : List Fold) (xs ys : List Row) → SameMembers xs ys → cells_of keys folds xs ≡ cells_of keys folds ys
cells_are keys folds xs ys same =
    map_same (λ (f : ℕ × Fold). cell_of f.1 (values_in (keys + f.0) xs)) (λ (f : ℕ × Fold). cell_of f.1 (values_in (keys + f.0) ys))
    (enumerate_from 0 folds) (λ f m. ap (cell_of f.1) (values_are (keys + f.0) xs ys same))

by_keys : (keys : ℕ) (folds : List Fold) (xs ys : List Row) (ks : List Row) → SameMembers xs ys
    → map (cells_of keys folds) (map (group_at keys xs) ks) ≡ map (cells_of keys folds) (map (group_at keys ys) ks)
by_keys keys folds xs ys [] same = refl
by_keys keys folds xs ys (k ∷ ks) same =
    let here = cells_are keys folds (group_at keys xs k) (group_at keys ys k) (groups_are keys xs ys k same) in
    let rest = by_keys keys folds xs ys ks same in
    cc

pub listed_groups : (keys : ℕ) (folds : List Fold) (joined listed : List Row) → SameRows joined listed
    → grouped_rows keys folds joined ≡ grouped_rows keys folds listed
listed_groups keys folds joined listed rows =
    let same = members_are joined listed rows in
    ap (λ ks. map (cells_of keys folds) (map (group_at keys joined) ks))
    (distinct_same row_cmp_total row_cmp_tells (map (take keys) joined) (map (take keys) listed) (maps_are (take keys) joined listed same))
    ∙ by_keys keys folds joined listed (keys_of keys listed) same
