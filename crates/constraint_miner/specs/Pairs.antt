-- The pairs of columns that an access constraint may join.
--     columns_from first count        so many columns from one on
--     pairs_in rows width limit       the pairs of different columns whose greatest group is within the limit, by first,
--                                     then second column, each with the size of that group
use Rattle.std.specs.Prelude.{◌==◌, ◌+◌, if◌then◌else◌, ℕ, zero, suc, nat_le, List, [], ◌∷◌, Option, Some, None, flat_map}
use Rattle.std.specs.List.{filter_map}
use Rattle.beas_core.specs.declared.value.Value.{Value}
use Rattle.beas_core.specs.declared.schema.ColumnId.{ColumnId}
use Rattle.beas_core.specs.Groups.{greatest}

abbrev pub columns_from : ℕ → ℕ → List ColumnId
columns_from first zero = []
columns_from first (suc count) = record { 0 = first } ∷ columns_from (first + 1) count

abbrev pub pair_in : List (List Value) → ℕ → ColumnId → ColumnId → Option (ColumnId × ColumnId × ℕ)
pair_in rows limit first second =
    if first.0 == second.0 then None
    else (let most = greatest rows (first ∷ []) (second ∷ []) in if nat_le most limit then Some (first, second, most) else None)

abbrev pub pairs_in : List (List Value) → ℕ → ℕ → List (ColumnId × ColumnId × ℕ)
pairs_in rows width limit =
    let columns = columns_from 0 width in
    flat_map (λ first. filter_map (pair_in rows limit first) columns) columns
