use Rattle.std.proofs.Common.{◌≡◌, map, drop}
use Rattle.csv.specs.Records.{fields_of}
use Rattle.csv_load.specs.CsvRows.{bad_column}
use Rattle.csv_load.proofs.rows.bad_column.Given as goal

-- no column so far is bad
abbrev pub invariant-loop-place : goal.invariant-loop-place
invariant-loop-place l =
    bad_column l.longest (drop l.place (map (λ column. column.now) l.columns)) (drop l.place (fields_of l.fields))
    ≡ bad_column l.longest (map (λ column. column.now) l.columns) (fields_of l.fields)
