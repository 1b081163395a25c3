use Rattle.std.proofs.Common.{◌≡◌, map, take}
use Rattle.std.specs.List.{enumerate_from}
use Rattle.beas_core.specs.Classes.{needed_columns}
use Rattle.reference_normal_form.proofs.needed.needed_columns_by_atom.Given as goal

abbrev pub invariant-loop-number : goal.invariant-loop-number
invariant-loop-number l = l.all ≡ map (λ a. needed_columns l.block a.0 a.1.width) (take l.number (enumerate_from 0 l.block.atoms))
