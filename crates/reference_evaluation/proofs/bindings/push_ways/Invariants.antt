use Rattle.std.proofs.Common.{◌≡◌, ◌++◌, map, take}
use Rattle.reference_evaluation.proofs.bindings.push_ways.Given as goal

abbrev pub invariant-loop-row : goal.invariant-loop-row
invariant-loop-row l = l.ways ≡ l.initial.ways ++ map (λ row. l.way ++ row) (take l.row-index l.fetched)
