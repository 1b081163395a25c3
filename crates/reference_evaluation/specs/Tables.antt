-- Tables as a list: table i is the i-th list of rows.
use Rattle.std.specs.Prelude.{List, [], slice_index_or}
use Rattle.beas_core.specs.declared.schema.TableId.{TableId}
use Rattle.beas_core.specs.declared.value.Value.{Value}

-- the rows of a table, none where there is no such table
abbrev pub rows_in : List (List (List Value)) → TableId → List (List Value)
rows_in tables id = slice_index_or tables id.0 []
