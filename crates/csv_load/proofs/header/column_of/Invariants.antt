use Rattle.std.proofs.Common.{◌≡◌, ◌++◌, drop}
use Rattle.std.specs.List.{filter}
use Rattle.std.specs.Option.{option_map, option_to_list}
use Rattle.csv_load.specs.Fields.{names}
use Rattle.csv_load.specs.CsvRows.{column_of, the_only}
use Rattle.csv_load.proofs.header.column_of.Given as goal

-- the column that was found, and those that are left to look at
abbrev pub invariant-loop-column : goal.invariant-loop-column
invariant-loop-column l =
    the_only (option_to_list (option_map (λ column. column.now) l.found) ++ filter (names l.field) (drop l.column-index l.columns))
    ≡ column_of l.columns l.field
