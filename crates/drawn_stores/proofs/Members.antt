-- The columns of a constraint's tuples are its key and its fetched columns.
use Rattle.std.proofs.Common.{◌≡◌, ◌==◌, ◌||◌, ◌++◌, List}
use Rattle.std.proofs.lemmas.List.Folds.{list_any-append}
use Rattle.beas_core.specs.declared.schema.ColumnId.{ColumnId}
use Rattle.beas_core.specs.Groups.{has_column}

pub in_either : (key fetched : List ColumnId) (column : ColumnId)
    → has_column (key ++ fetched) column ≡ (has_column key column || has_column fetched column)
in_either key fetched column = list_any-append (λ c. c.0 == column.0) key fetched
