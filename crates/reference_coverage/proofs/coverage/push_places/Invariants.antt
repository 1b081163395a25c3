use Rattle.std.proofs.Common.{◌≡◌, ◌++◌, map, take}
use Rattle.reference_coverage.proofs.coverage.push_places.Given as goal

abbrev pub invariant-loop-column : goal.invariant-loop-column
invariant-loop-column l = l.places ≡ l.initial.places ++ map (λ c. record { atom = l.atom; column = c }) (take l.column-index l.columns)
