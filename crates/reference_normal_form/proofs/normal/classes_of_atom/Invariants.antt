use Rattle.std.proofs.Common.{◌≡◌, map}
use Rattle.std.specs.List.{range_with_len}
use Rattle.beas_core.specs.Classes.{class_of}
use Rattle.reference_normal_form.proofs.normal.classes_of_atom.Given as goal

abbrev pub invariant-loop-column : goal.invariant-loop-column
invariant-loop-column l = l.classes ≡ map (λ c. class_of l.block (record { atom = l.atom; column = record { 0 = c } })) (range_with_len 0 l.column)
