use Rattle.std.proofs.Common.{take}
use Rattle.std.specs.List.{flat_map}
use Rattle.name_resolution.specs.LookedUp.{Adds, parts}
use Rattle.name_resolution.proofs.building.add_conditions.Given as goal

abbrev pub invariant-loop-condition : goal.invariant-loop-condition
invariant-loop-condition l = Adds l.initial.block l.block (flat_map parts (take l.condition-index l.conditions))
