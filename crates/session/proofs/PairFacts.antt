-- The pairs of columns that are found are pairs of a table's columns.
use Rattle.std.proofs.Common.{◌≡◌, ℕ, zero, suc, ◌+◌, ◌==◌, ◌<◌, Bool, true, false, if◌then◌else◌, List, [], ◌∷◌, All, arith, Option, Some, None}
use Rattle.std.specs.Prelude.{nat_le}
use Rattle.std.specs.List.{cons_option, filter_map, flat_map}
use Rattle.std.proofs.lemmas.List.Elements.{All-append, All-nil}
use Rattle.beas_core.specs.declared.schema.ColumnId.{ColumnId}
use Rattle.beas_core.specs.declared.value.Value.{Value}
use Rattle.beas_core.specs.Groups.{greatest}
use Rattle.constraint_miner.specs.Pairs.{columns_from, pair_in, pairs_in}

abbrev pub PairIsBelow : ℕ → ColumnId × ColumnId × ℕ → Type 0
PairIsBelow width p = (p.0.0 < width) × (p.1.0 < width)

all_cons : {X : Type 0} (P : X → Type 0) (x : X) (xs : List X) → P x → All P xs → All P (x ∷ xs)
all_cons P x xs p ps zero d below = p
all_cons P x xs p ps (suc i) d below = ps i d (omega (arith, below))

columns_below : (width first count : ℕ) → first + count ≡ width → All (λ c. c.0 < width) (columns_from first count)
columns_below width first zero e = All-nil (λ (c : ColumnId). c.0 < width)
columns_below width first (suc count) e =
    all_cons (λ (c : ColumnId). c.0 < width) (record { 0 = first }) (columns_from (first + 1) count) (omega (arith, e))
    (columns_below width (first + 1) count (omega (arith, e)))

abbrev maybe : Bool → Bool → ColumnId → ColumnId → ℕ → Option (ColumnId × ColumnId × ℕ)
maybe same within first second most = if same then None else (if within then Some (first, second, most) else None)

module _ (rows : List (List Value)) (limit width : ℕ) where
  with_first : (first : ColumnId) → first.0 < width → (columns : List ColumnId) → All (λ c. c.0 < width) columns
      → All (PairIsBelow width) (filter_map (pair_in rows limit first) columns)
  with_first first below [] all = All-nil (PairIsBelow width)
  with_first first below (second ∷ columns) all =
      by (first.0 == second.0) (nat_le (greatest rows (first ∷ []) (second ∷ [])) limit)
      (with_first first below columns (λ i d l. all (suc i) d (omega (arith, l))))
    where
      by : (same within : Bool) → All (PairIsBelow width) (filter_map (pair_in rows limit first) columns)
          → All (PairIsBelow width) (cons_option (maybe same within first second (greatest rows (first ∷ []) (second ∷ [])))
          (filter_map (pair_in rows limit first) columns))
      by true within rest = rest
      by false true rest =
          all_cons (PairIsBelow width) (first, second, greatest rows (first ∷ []) (second ∷ [])) (filter_map (pair_in rows limit first) columns)
          (below, all 0 second (omega arith)) rest
      by false false rest = rest

  with_each : (columns firsts : List ColumnId) → All (λ c. c.0 < width) columns → All (λ c. c.0 < width) firsts
      → All (PairIsBelow width) (flat_map (λ first. filter_map (pair_in rows limit first) columns) firsts)
  with_each columns [] all each = All-nil (PairIsBelow width)
  with_each columns (first ∷ firsts) all each =
      All-append (PairIsBelow width) (filter_map (pair_in rows limit first) columns) (flat_map (λ first. filter_map (pair_in rows limit first) columns) firsts)
      (with_first first (each 0 first (omega arith)) columns all) (with_each columns firsts all (λ i d l. each (suc i) d (omega (arith, l))))

  pub pairs_are_below : All (PairIsBelow width) (pairs_in rows width limit)
  pairs_are_below =
      let columns = columns_from 0 width in
      with_each columns columns (columns_below width 0 width (omega arith)) (columns_below width 0 width (omega arith))
