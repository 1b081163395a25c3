use Rattle.std.proofs.Common.{◌≡◌, map, take}
use Rattle.std.specs.List.{enumerate_from, range_with_len}
use Rattle.beas_core.specs.Classes.{class_of}
use Rattle.reference_normal_form.proofs.normal.classes.Given as goal

abbrev pub invariant-loop-number : goal.invariant-loop-number
invariant-loop-number l = l.all
    ≡ map (λ a. map (λ c. class_of l.block (record { atom = a.0; column = record { 0 = c } })) (range_with_len 0 a.1.width))
    (take l.number (enumerate_from 0 l.block.atoms))
