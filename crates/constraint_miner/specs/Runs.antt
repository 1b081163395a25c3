-- Rows in the order of their tuples, gone through one by one: the rows of a group stand together, and so do equal
-- tuples.
--     tuple_cmp key fetched a b                        two rows by their tuples
--     size_with key fetched before row size            how many distinct tuples the row's group has up to it, where the
--                                                      row before it has so many in its own
--     greatest_from key fetched before size most rows  the greatest of these sizes, and of `most`
use Rattle.std.specs.Prelude.{◌+◌, if◌then◌else◌, Bool, ℕ, max, List, [], ◌∷◌, ◌++◌, Option, Some, None}
use Rattle.std.specs.declared.cmp.Ordering.{Ordering}
use Rattle.beas_core.specs.declared.value.Value.{Value}
use Rattle.beas_core.specs.declared.schema.ColumnId.{ColumnId}
use Rattle.beas_core.specs.Order.{row_cmp}
use Rattle.beas_core.specs.Groups.{project, same_row}

abbrev pub tuple_cmp : List ColumnId → List ColumnId → List Value → List Value → Ordering
tuple_cmp key fetched a b = row_cmp (project (key ++ fetched) a) (project (key ++ fetched) b)

abbrev pub is_same_in : List ColumnId → List Value → List Value → Bool
is_same_in columns a b = same_row (project columns a) (project columns b)

abbrev pub size_with : List ColumnId → List ColumnId → Option (List Value) → List Value → ℕ → ℕ
size_with key fetched None row size = 1
size_with key fetched (Some before) row size =
    if is_same_in key before row then (if is_same_in fetched before row then size else size + 1) else 1

abbrev pub greatest_from : List ColumnId → List ColumnId → Option (List Value) → ℕ → ℕ → List (List Value) → ℕ
greatest_from key fetched before size most [] = most
greatest_from key fetched before size most (row ∷ rows) =
    let here = size_with key fetched before row size in
    greatest_from key fetched (Some row) here (max most here) rows
