use Rattle.std.proofs.Common.{◌≡◌, take}
use Rattle.name_resolution.specs.LookedUp.{all_places}
use Rattle.name_resolution.proofs.building.all_places.Given as goal

abbrev pub invariant-loop-number : goal.invariant-loop-number
invariant-loop-number l = l.places ≡ all_places (take l.number l.atoms)
