-- Lengths of sets of classes.
use Rattle.std.proofs.Common.{◌≡◌, List, [], ◌∷◌, length, ◌∙◌, refl, ℕ, Bool, true, length-set}
use Rattle.std.specs.List.{slice_set}
use Rattle.beas_core.specs.Coverage.{with_classes}

pub length_with : (set : List Bool) (classes : List ℕ) → length (with_classes set classes) ≡ length set
length_with set [] = refl
length_with set (c ∷ classes) = length_with (slice_set set c true) classes ∙ length-set set c true
