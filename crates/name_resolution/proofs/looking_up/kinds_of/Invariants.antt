use Rattle.std.proofs.Common.{◌≡◌, map, take}
use Rattle.std.specs.List.{filter_map}
use Rattle.name_resolution.specs.LookedUp.{column_of}
use Rattle.name_resolution.proofs.looking_up.kinds_of.Given as goal

abbrev pub invariant-loop-item : goal.invariant-loop-item
invariant-loop-item l = l.kinds ≡ map (λ c. c.kind) (filter_map column_of (take l.item-index l.items))
