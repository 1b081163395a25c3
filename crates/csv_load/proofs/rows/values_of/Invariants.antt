use Rattle.std.proofs.Common.{◌≡◌, ◌++◌, drop}
use Rattle.csv.specs.Records.{fields_of}
use Rattle.csv_load.specs.Layouts.{has_values, row_of_slots}
use Rattle.csv_load.proofs.rows.values_of.Given as goal

-- the slots so far have a value each, and these are the values
abbrev pub invariant-loop-slot : goal.invariant-loop-slot
invariant-loop-slot l =
    (has_values l.longest (drop l.slot-index l.slots) (fields_of l.fields) ≡ has_values l.longest l.slots (fields_of l.fields))
    × (l.values.items ++ row_of_slots l.longest (drop l.slot-index l.slots) (fields_of l.fields) ≡ row_of_slots l.longest l.slots (fields_of l.fields))
