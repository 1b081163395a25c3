-- How many rows a file gives, and how wide they are.
use Rattle.std.proofs.Common.{ℕ, ◌+◌, ◌^◌, ◌<◌, ◌≤◌, List, [], ◌∷◌, length, All, get_or, arith}
use Rattle.std.proofs.Math.Nat.{le-max_left}
use Rattle.std.proofs.lemmas.List.{length-map}
use Rattle.std.proofs.lemmas.List.Elements.{All-map}
use Rattle.beas_core.specs.declared.schema.Column.{Column}
use Rattle.beas_core.specs.declared.value.Value.{Value}
use Rattle.csv_load.specs.CsvRows.{Record, records_of, row_in, rows_in, rows_under, value_in}
use Rattle.csv_load.specs.Reading.{weight}
use Rattle.csv_load.proofs.RecordFacts.{records_fit}
use Rattle.session.proofs.TupleFacts.{fewer}

some_weight : (records : List Record) → length records ≤ weight records
some_weight [] = omega arith
some_weight (fields ∷ records) = omega (arith, some_weight records, le-max_left 1 (length fields))

rows_under_few : (longest : ℕ) (columns : List Column) (records : List Record) → length (rows_under longest columns records) ≤ length records
unfolding rows_under
rows_under_few longest columns [] = omega arith
rows_under_few longest columns (header ∷ records) = omega (arith, length-map records (row_in longest columns header))

pub file_gives_few : (longest : ℕ) (columns : List Column) (bytes : List ℕ) → length (rows_in longest columns bytes) ≤ length bytes + 1
file_gives_few longest columns bytes =
    omega (arith, rows_under_few longest columns (records_of bytes), some_weight (records_of bytes), records_fit bytes)

rows_under_narrow : (longest : ℕ) (columns : List Column) (records : List Record) → length columns < 2 ^ 32
    → All (λ row. length row < 2 ^ 32) (rows_under longest columns records)
unfolding rows_under
rows_under_narrow longest columns [] l = λ i d below. absurd (omega (arith, below))
rows_under_narrow longest columns (header ∷ records) l =
    All-map (λ (row : List Value). length row < 2 ^ 32) (row_in longest columns header) records
    (λ i d below. omega (arith, l, fewer (value_in longest header (get_or records i d)) columns))

pub file_gives_narrow : (longest : ℕ) (columns : List Column) (bytes : List ℕ) → length columns < 2 ^ 32
    → All (λ row. length row < 2 ^ 32) (rows_in longest columns bytes)
file_gives_narrow longest columns bytes l = rows_under_narrow longest columns (records_of bytes) l
