use Rattle.std.proofs.Common.{◌≡◌, map, take}
use Rattle.name_resolution.specs.Meanings.{condition}
use Rattle.name_resolution.specs.Scopes.{told_by}
use Rattle.name_resolution.proofs.looking_up.conditions_of.Given as goal

abbrev pub invariant-loop-condition : goal.invariant-loop-condition
invariant-loop-condition l = l.all ≡ map (condition (told_by l.names)) (take l.condition-index l.conditions)
