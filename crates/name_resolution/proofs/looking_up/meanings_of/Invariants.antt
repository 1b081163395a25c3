use Rattle.std.proofs.Common.{◌≡◌, map, take}
use Rattle.name_resolution.specs.Scopes.{told_by}
use Rattle.name_resolution.proofs.looking_up.meanings_of.Given as goal

abbrev pub invariant-loop-reference : goal.invariant-loop-reference
invariant-loop-reference l = l.meanings ≡ map (told_by l.names) (take l.reference-index l.references)
