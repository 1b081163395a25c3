use Rattle.std.proofs.Common.{◌≡◌, ◌++◌, drop, map}
use Rattle.std.specs.List.{list_all, filter_map}
use Rattle.std.specs.Option.{is_some}
use Rattle.csv.specs.Records.{fields_of}
use Rattle.csv_load.specs.CsvRows.{column_of, in_file_order}
use Rattle.csv_load.proofs.header.in_file_order.Given as goal

-- the fields so far name a column each, and these are the columns
abbrev pub invariant-loop-place : goal.invariant-loop-place
invariant-loop-place l =
    (list_all (λ field. is_some (column_of l.columns field)) (drop l.place (fields_of l.header))
    ≡ list_all (λ field. is_some (column_of l.columns field)) (fields_of l.header))
    × (map (λ column. column.now) l.in_file.items ++ filter_map (column_of l.columns) (drop l.place (fields_of l.header))
    ≡ in_file_order l.columns (fields_of l.header))
