use Rattle.std.proofs.Common.{◌≡◌, map, take}
use Rattle.std.specs.List.{filter_map}
use Rattle.name_resolution.specs.LookedUp.{column_of, place_of}
use Rattle.name_resolution.proofs.building.item_places.Given as goal

abbrev pub invariant-loop-item : goal.invariant-loop-item
invariant-loop-item l = l.places ≡ map place_of (filter_map column_of (take l.item-index l.items))
