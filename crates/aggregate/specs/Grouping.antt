-- Rows in groups, and one row of cells for each group.
--     groups_of keys rows           the rows of each key, which are the first columns; the keys are distinct and in order
--     values_in column group        the distinct values of a column in a group, in order
--     cells_of keys folds group     what the folds make of the columns after the keys
--     grouped_rows keys folds rows  so for each group, in the order of their keys
use Rattle.std.specs.Prelude.{◌+◌, ◌+ℤ◌, ℕ, ℤ, pos, List, [], ◌∷◌, length, map, take, fold, filter, slice_index_or}
use Rattle.std.specs.List.{enumerate_from}
use Rattle.beas_core.specs.declared.value.Value.{Value}
use Rattle.beas_core.specs.declared.value.Value.TheVariants.{Int, Str}
use Rattle.beas_core.specs.Groups.{same_row}
use Rattle.beas_core.specs.Order.{value_cmp, row_cmp}
use Rattle.beas_core.specs.Sets.{distinct}
use Rattle.beas_core.specs.Types.{Row}
use Rattle.aggregate.specs.declared.cell.Cell.{Cell}
use Rattle.aggregate.specs.declared.cell.Cell.TheVariants as cells
use Rattle.aggregate.specs.declared.cell.Fold.{Fold}
use Rattle.aggregate.specs.declared.cell.Fold.TheVariants as folds

abbrev pub keys_of : ℕ → List Row → List Row
keys_of keys rows = distinct row_cmp (map (take keys) rows)

abbrev pub group_at : ℕ → List Row → Row → List Row
group_at keys rows key = filter (λ row. same_row key (take keys row)) rows

abbrev pub groups_of : ℕ → List Row → List (List Row)
groups_of keys rows = map (group_at keys rows) (keys_of keys rows)

abbrev pub column_of : ℕ → Row → Value
column_of column row = slice_index_or row column (Int (pos 0))

abbrev pub values_in : ℕ → List Row → List Value
values_in column group = distinct value_cmp (map (column_of column) group)

abbrev pub int_of : Value → ℤ
int_of (Int number) = number
int_of (Str text) = pos 0

abbrev pub sum_of : List Value → ℤ
sum_of values = fold (λ sum value. sum +ℤ int_of value) (pos 0) values

abbrev pub last_of : List Value → Value
last_of [] = Int (pos 0)
last_of (value ∷ []) = value
last_of (value ∷ next ∷ values) = last_of (next ∷ values)

abbrev pub first_of : List Value → Value
first_of [] = Int (pos 0)
first_of (value ∷ values) = value

-- of the distinct values of a column, in order
abbrev pub cell_of : Fold → List Value → Cell
cell_of folds.Plain values = cells.Plain (first_of values)
cell_of folds.Count values = cells.Count (length values)
cell_of folds.Sum values = cells.Sum (sum_of values)
cell_of folds.Least values = cells.Plain (first_of values)
cell_of folds.Greatest values = cells.Plain (last_of values)

abbrev pub cells_of : ℕ → List Fold → List Row → List Cell
cells_of keys folds group = map (λ f. cell_of f.1 (values_in (keys + f.0) group)) (enumerate_from 0 folds)

abbrev pub grouped_rows : ℕ → List Fold → List Row → List (List Cell)
grouped_rows keys folds rows = map (cells_of keys folds) (groups_of keys rows)
