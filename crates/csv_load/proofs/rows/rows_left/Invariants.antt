use Rattle.std.proofs.Common.{◌≡◌, ◌≤◌, ◌+◌, ◌++◌, map}
use Rattle.std.specs.List.{enumerate_from}
use Rattle.csv_load.specs.CsvRows.{fault_in, fault_under, first_some}
use Rattle.csv_load.specs.Layouts.{row_of_slots}
use Rattle.csv_load.specs.Reading.{weight}
use Rattle.csv_load.proofs.rows.rows_left.Given as goal

-- the rows so far and of what is left are all rows; no record so far has a fault; each record that is read takes of the weight
abbrev pub invariant-loop-fields : goal.invariant-loop-fields
invariant-loop-fields l =
    (l.rows.items ++ map (row_of_slots l.longest l.layout.slots.items) l.records ≡ map (row_of_slots l.longest l.layout.slots.items) l.fn.records)
    × (first_some (λ p. fault_in l.longest (map (λ column. column.now) l.layout.in_file.items) p.0 p.1) (enumerate_from (l.nth + 1) l.records)
    ≡ fault_under l.longest (map (λ column. column.now) l.layout.in_file.items) l.fn.records)
    × (l.nth + weight l.records ≤ weight l.fn.records)

abbrev pub decreases-loop-fields : goal.decreases-loop-fields
decreases-loop-fields l = weight l.records
