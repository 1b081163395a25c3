use Rattle.std.proofs.Common.{◌≡◌, map, take}
use Rattle.std.specs.List.{flat_map}
use Rattle.name_resolution.specs.Meanings.{sources}
use Rattle.name_resolution.proofs.looking_up.all_kinds.Given as goal

abbrev pub invariant-loop-item : goal.invariant-loop-item
invariant-loop-item l = l.kinds ≡ flat_map (λ s. map (λ c. c.kind) s.columns) (sources l.catalogue (take l.item-index l.items))
