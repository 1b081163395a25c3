use Rattle.std.proofs.Common.{map, take}
use Rattle.name_resolution.specs.Scopes.{told_by}
use Rattle.binder.specs.AtOnce.{ArePlacesOf}
use Rattle.binder.proofs.at_once.places_if_sound.Given as goal

-- the places of the refs so far
abbrev pub invariant-loop-reference : goal.invariant-loop-reference
invariant-loop-reference l = ArePlacesOf l.places (map (told_by l.names) (take l.reference-index l.references))
