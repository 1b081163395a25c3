use Rattle.std.proofs.Common.{◌≡◌, take}
use Rattle.std.specs.Prelude.{map}
use Rattle.session.specs.Effects.{named_place}
use Rattle.session.proofs.specialising.named_places.Given as goal

abbrev pub invariant-loop-place : goal.invariant-loop-place
invariant-loop-place l = l.named ≡ map (named_place l.catalogue l.block) (take l.place-index l.places)
