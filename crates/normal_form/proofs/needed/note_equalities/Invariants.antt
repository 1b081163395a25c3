use Rattle.std.proofs.Common.{◌≡◌, [], ◌∷◌, take}
use Rattle.std.specs.List.{flat_map}
use Rattle.normal_form.specs.Places.{with_places}
use Rattle.normal_form.proofs.needed.note_equalities.Given as goal

abbrev pub invariant-loop-equality : goal.invariant-loop-equality
invariant-loop-equality l = l.used ≡ with_places l.places.atoms.now l.initial.used (flat_map (λ e. e.0 ∷ e.1 ∷ []) (take l.equality-index l.equalities))
