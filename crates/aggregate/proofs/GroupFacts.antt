-- The cells of groups, and the first group of rows in order.
use Rattle.std.proofs.Common.{◌≡◌, ◌<◌, ◌≤◌, ◌+◌, ◌-◌, ◌+ℤ◌, ◌++◌, ◌∙◌, ℕ, zero, suc, pos, Bool, List, [], ◌∷◌, length, map, take, drop, get_or, refl, ap, sym, arith}
use Rattle.std.specs.Prelude.{Result, Ok, Err, IfOk}
use Rattle.std.specs.List.{enumerate_from}
use Rattle.std.specs.List.Retain.{IsFiltered, DiffersFromLast}
use Rattle.std.specs.List.Sorted.{IsPermutation, IsSorted}
use Rattle.std.specs.Ordering.{eq_by_cmp}
use Rattle.std.specs.Cmp.Lexicographic.{pointwise, lists_ties}
use Rattle.std.proofs.Math.Seq.{take-suc}
use Rattle.std.proofs.lemmas.List.{map-append, length-take}
use Rattle.std.proofs.lemmas.List.Filters.{dedup_is}
use Rattle.std.proofs.lemmas.List.Sums.{fold-append}
use Rattle.beas_core.specs.declared.errors.NoMemory.{NoMemory}
use Rattle.beas_core.specs.declared.value.Value.{Value}
use Rattle.beas_core.specs.Order.{row_cmp, value_cmp, value_cmp_total}
use Rattle.beas_core.specs.Sets.{distinct, IsInOrder}
use Rattle.beas_core.specs.Types.{Row}
use Rattle.beas_core.proofs.Sets.{distinct_by_sort}
use Rattle.beas_core.specs.Telling.{value_cmp_tells}
use Rattle.aggregate.specs.declared.cell.Cell.{Cell}
use Rattle.aggregate.specs.declared.cell.Fold.{Fold}
use Rattle.aggregate.specs.Grouping.{grouped_rows, cells_of, cell_of, values_in, last_of, sum_of, int_of}
use Rattle.aggregate.specs.Runs.{same_key}
use Rattle.aggregate.proofs.RunFacts.{IsRun, first_run, runs_are, IsInOrder-drop}

pub enumerate_from-append : {X : Type 0} (n : ℕ) (xs ys : List X) → enumerate_from n (xs ++ ys) ≡ enumerate_from n xs ++ enumerate_from (n + length xs) ys
enumerate_from-append n [] ys = let e : n ≡ n + 0 = omega arith in ap (λ m. enumerate_from m ys) e
enumerate_from-append n (x ∷ xs) ys =
    let at : n + 1 + length xs ≡ n + length (x ∷ xs) = omega arith in
    ap (λ l. (n, x) ∷ l) (enumerate_from-append (n + 1) xs ys ∙ ap (λ m. enumerate_from (n + 1) xs ++ enumerate_from m ys) at)

-- ---- columns and cells

pub values_from_sort : (xs ys zs : List Value) → IsPermutation xs ys → IsSorted value_cmp ys
    → IsFiltered (DiffersFromLast (eq_by_cmp value_cmp)) [] ys zs → zs ≡ distinct value_cmp xs
values_from_sort xs ys zs same sorted filtered =
    dedup_is (eq_by_cmp value_cmp) ys zs filtered ∙ distinct_by_sort value_cmp_total value_cmp_tells xs ys same sorted

last_at : (values : List Value) (k : ℕ) (d : Value) → suc k ≡ length values → last_of values ≡ get_or values k d
last_at [] k d h = absurd (omega arith)
last_at (value ∷ []) zero d h = refl
last_at (value ∷ []) (suc k) d h = absurd (omega arith)
last_at (value ∷ next ∷ values) zero d h = absurd (omega arith)
last_at (value ∷ next ∷ values) (suc k) d h = last_at (next ∷ values) k d (omega arith)

pub last_copy : (r : Result Value NoMemory) (values : List Value) (last : Value) → 1 ≤ length values
    → last ≡ get_or values (length values - 1) last → IfOk r (λ v. v ≡ last) → IfOk r (λ v. v ≡ last_of values)
last_copy (Err e) values last some is h = tt
last_copy (Ok v) values last some is h =
    h ∙ is ∙ sym (last_at values (length values - 1) last (omega arith))

pub cells-more : (keys place : ℕ) (folds : List Fold) (group : List Row) (d : Fold) → place < length folds
    → cells_of keys (take (place + 1) folds) group
    ≡ cells_of keys (take place folds) group ++ cell_of (get_or folds place d) (values_in (keys + place) group) ∷ []
cells-more keys place folds group d within =
    let f : ℕ × Fold → Cell = λ x. cell_of x.1 (values_in (keys + x.0) group) in
    let one : place + 1 ≡ suc place = omega arith in
    let long : length (take place folds) ≡ place = (let l = length-take place folds in omega arith) in
    ap (λ n. map f (enumerate_from 0 (take n folds))) one
    ∙ ap (λ fs. map f (enumerate_from 0 fs)) (take-suc folds place d within)
    ∙ ap (map f) (enumerate_from-append 0 (take place folds) (get_or folds place d ∷ []))
    ∙ map-append f (enumerate_from 0 (take place folds)) (enumerate_from (0 + length (take place folds)) (get_or folds place d ∷ []))
    ∙ ap (λ n. map f (enumerate_from 0 (take place folds)) ++ cell_of (get_or folds place d) (values_in (keys + n) group) ∷ [])
    ((let zero_more : 0 + length (take place folds) ≡ place = omega (arith, long) in zero_more))

pub grouped_rows-more : (keys n : ℕ) (folds : List Fold) (rows : List Row) → IsInOrder row_cmp rows → IsRun keys n rows
    → grouped_rows keys folds rows ≡ cells_of keys folds (take n rows) ∷ grouped_rows keys folds (drop n rows)
grouped_rows-more keys n folds rows in_order run =
    ap (map (cells_of keys folds))
    (runs_are keys rows in_order ∙ first_run keys n rows run
    ∙ ap (λ groups. take n rows ∷ groups) (sym (runs_are keys (drop n rows) (IsInOrder-drop row_cmp n rows in_order))))

pub sum_more : (values : List Value) (i : ℕ) (d : Value) → i < length values
    → sum_of (take (i + 1) values) ≡ sum_of (take i values) +ℤ int_of (get_or values i d)
sum_more values i d within =
    let one : i + 1 ≡ suc i = omega arith in
    ap (λ n. sum_of (take n values)) one ∙ ap sum_of (take-suc values i d within)
    ∙ fold-append (λ sum value. sum +ℤ int_of value) (pos 0) (take i values) (get_or values i d ∷ [])

pub same-keys : (keys a b : ℕ) (row other s t : Row) (r : Bool) → a ≡ keys → b ≡ keys → s ≡ row → t ≡ other
    → r ≡ pointwise (eq_by_cmp value_cmp) (take a s) (take b t) → r ≡ same_key keys row other
same-keys keys a b row other s t r p q u v is =
    is ∙ lists_ties value_cmp (λ x y. refl) (take a s) (take b t)
    ∙ ap (λ xs. eq_by_cmp row_cmp xs (take b t)) (ap (λ n. take n s) p ∙ ap (take keys) u)
    ∙ ap (eq_by_cmp row_cmp (take keys row)) (ap (λ n. take n t) q ∙ ap (take keys) v)
