use Rattle.std.proofs.Common.{◌≡◌, map, take}
use Rattle.normal_form.specs.Places.{with_places}
use Rattle.normal_form.proofs.needed.note_constants.Given as goal

abbrev pub invariant-loop-constant : goal.invariant-loop-constant
invariant-loop-constant l = l.used ≡ with_places l.places.atoms.now l.initial.used (map (λ c. c.0) (take l.constant-index l.constants))
