use Rattle.std.proofs.Common.{◌≡◌, ◌++◌, drop, map}
use Rattle.std.specs.List.{filter, enumerate_from}
use Rattle.std.specs.Option.{option_to_list}
use Rattle.csv.specs.Records.{fields_of}
use Rattle.csv_load.specs.Fields.{names}
use Rattle.csv_load.specs.CsvRows.{place_of, the_only}
use Rattle.csv_load.proofs.header.place_of.Given as goal

-- the place that was found, and those that are left to look at
abbrev pub invariant-loop-place : goal.invariant-loop-place
invariant-loop-place l =
    the_only (option_to_list l.found ++ map (λ p. p.0) (filter (λ p. names p.1 l.column) (enumerate_from l.place (drop l.place (fields_of l.header)))))
    ≡ place_of (fields_of l.header) l.column
