-- Groups of rows, and access constraints over rows.
--     project columns row            the row's values in these columns
--     group rows key fetched value   the distinct tuples over key and fetched of the rows whose key has this value, in order
--     Holds rows access              each group of the constraint has at most as many members as its bound
--     greatest rows key fetched      the size of the greatest group, 0 over no rows
use Rattle.std.specs.Prelude.{◌≤◌, ◌==◌, if◌then◌else◌, ℕ, pos, Bool, List, [], ◌∷◌, ◌++◌, length, map, filter, fold, max, slice_index_or}
use Rattle.std.specs.List.{list_any}
use Rattle.std.specs.Ordering.{eq_by_cmp}
use Rattle.beas_core.specs.declared.value.Value.{Value}
use Rattle.beas_core.specs.declared.value.Value.TheVariants.{Int}
use Rattle.beas_core.specs.declared.schema.ColumnId.{ColumnId}
use Rattle.beas_core.specs.declared.schema.Access.{Access}
use Rattle.beas_core.specs.Types.{Row}
use Rattle.beas_core.specs.Order.{row_cmp}
use Rattle.beas_core.specs.Sets.{distinct}

abbrev pub value_at : Row → ColumnId → Value
value_at row column = slice_index_or row column.0 (Int (pos 0))

abbrev pub project : List ColumnId → Row → Row
project columns row = map (value_at row) columns

abbrev pub same_row : Row → Row → Bool
same_row = eq_by_cmp row_cmp

abbrev pub group : List Row → List ColumnId → List ColumnId → Row → List Row
group rows key fetched value =
    distinct row_cmp (map (project (key ++ fetched)) (filter (λ row. same_row (project key row) value) rows))

abbrev pub group_of : List Row → Access → Row → List Row
group_of rows access value = group rows access.key access.fetched value

abbrev pub Holds : List Row → Access → Type 0
Holds rows access = (value : Row) → length (group_of rows access value) ≤ access.bound

abbrev pub greatest : List Row → List ColumnId → List ColumnId → ℕ
greatest rows key fetched = fold max 0 (map (λ row. length (group rows key fetched (project key row))) rows)

-- the columns of a group's tuples, in their order
abbrev pub member_columns : Access → List ColumnId
member_columns access = access.key ++ access.fetched

-- a column's value in a tuple over these columns, the first where a column stands twice
abbrev pub value_in : List ColumnId → Row → ColumnId → Value
value_in [] tuple column = Int (pos 0)
value_in (c ∷ columns) [] column = Int (pos 0)
value_in (c ∷ columns) (v ∷ tuple) column = if c.0 == column.0 then v else value_in columns tuple column

abbrev pub has_column : List ColumnId → ColumnId → Bool
has_column columns column = list_any (λ c. c.0 == column.0) columns
