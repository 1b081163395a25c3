use Rattle.std.proofs.Common.{◌≡◌, ◌++◌, drop}
use Rattle.std.specs.List.{list_all, filter_map}
use Rattle.std.specs.Option.{is_some}
use Rattle.csv.specs.Records.{fields_of}
use Rattle.csv_load.specs.CsvRows.{place_of}
use Rattle.csv_load.specs.Layouts.{slot_of, slots_of}
use Rattle.csv_load.proofs.header.slots_of.Given as goal

-- the columns so far have a place each, and these are the places
abbrev pub invariant-loop-column : goal.invariant-loop-column
invariant-loop-column l =
    (list_all (λ column. is_some (place_of (fields_of l.header) column)) (drop l.column-index l.columns)
    ≡ list_all (λ column. is_some (place_of (fields_of l.header) column)) l.columns)
    × (l.slots.items ++ filter_map (slot_of (fields_of l.header)) (drop l.column-index l.columns) ≡ slots_of l.columns (fields_of l.header))
