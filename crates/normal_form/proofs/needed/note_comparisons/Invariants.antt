use Rattle.std.proofs.Common.{◌≡◌, ◌∷◌, take}
use Rattle.std.specs.List.{flat_map}
use Rattle.beas_core.specs.Classes.{operand_places}
use Rattle.normal_form.specs.Places.{with_places}
use Rattle.normal_form.proofs.needed.note_comparisons.Given as goal

abbrev pub invariant-loop-comparison : goal.invariant-loop-comparison
invariant-loop-comparison l = l.used ≡ with_places l.places.atoms.now l.initial.used
    (flat_map (λ c. c.left ∷ operand_places c.right) (take l.comparison-index l.comparisons))
