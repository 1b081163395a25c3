use Rattle.std.proofs.Common.{◌≡◌, map, take}
use Rattle.std.specs.List.{flat_map, enumerate_from}
use Rattle.reference_coverage.proofs.coverage.needed_places.Given as goal

abbrev pub invariant-loop-atom : goal.invariant-loop-atom
invariant-loop-atom l = l.places ≡ flat_map (λ n. map (λ c. record { atom = n.0; column = c }) n.1) (take l.atom (enumerate_from 0 l.normal.needed))
