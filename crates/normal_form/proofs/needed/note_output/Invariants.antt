use Rattle.std.proofs.Common.{◌≡◌, take}
use Rattle.normal_form.specs.Places.{with_places}
use Rattle.normal_form.proofs.needed.note_output.Given as goal

abbrev pub invariant-loop-place : goal.invariant-loop-place
invariant-loop-place l = l.used ≡ with_places l.places.atoms.now l.initial.used (take l.place-index l.output)
