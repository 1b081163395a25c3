use Rattle.std.proofs.Common.{◌≡◌, List, drop}
use Rattle.beas_core.specs.Types.{Row}
use Rattle.place_chains.specs.TupleOrder.{IsReading, number_cmp}
use Rattle.place_chains.proofs.ordering.compare_numbers.Given as goal

-- the places so far tie
abbrev pub invariant-loop-place : goal.invariant-loop-place
invariant-loop-place g l = (tuples : List Row) → IsReading tuples l.count (goal.F-post g l.value) l.zero
    → number_cmp (drop l.place-index l.places) tuples l.left l.right ≡ number_cmp l.places tuples l.left l.right
