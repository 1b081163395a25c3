use Rattle.std.proofs.Common.{◌≡◌, map, take}
use Rattle.beas_core.specs.Classes.{class_of}
use Rattle.reference_normal_form.proofs.normal.constants.Given as goal

abbrev pub invariant-loop-place : goal.invariant-loop-place
invariant-loop-place l = l.all ≡ map (λ c. (class_of l.block c.0, c.1)) (take l.place-index l.block.constants)
