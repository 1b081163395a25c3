use Rattle.std.proofs.Common.{◌≡◌, ◌++◌, map}
use Rattle.std.specs.List.{range_with_len}
use Rattle.name_resolution.specs.LookedUp.{place_at}
use Rattle.name_resolution.proofs.building.add_places.Given as goal

abbrev pub invariant-loop-column : goal.invariant-loop-column
invariant-loop-column l = l.places ≡ l.initial.places ++ map (place_at l.atom) (range_with_len 0 l.column)
