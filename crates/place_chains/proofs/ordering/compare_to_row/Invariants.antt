use Rattle.std.proofs.Common.{◌≡◌, List, [], drop, get_or}
use Rattle.beas_core.specs.Order.{row_cmp}
use Rattle.beas_core.specs.Types.{Row}
use Rattle.place_chains.specs.TupleOrder.{IsReading, values_at}
use Rattle.place_chains.proofs.ordering.compare_to_row.Given as goal

-- the places so far tie
abbrev pub invariant-loop-at : goal.invariant-loop-at
invariant-loop-at g l = (tuples : List Row) → IsReading tuples l.count (goal.F-post g l.value) l.zero
    → row_cmp (values_at (drop l.at l.own) (get_or tuples l.number [])) (values_at (drop l.at l.places) l.row)
    ≡ row_cmp (values_at l.own (get_or tuples l.number [])) (values_at l.places l.row)
