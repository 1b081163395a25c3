use Rattle.std.proofs.Common.{◌≡◌, not, take}
use Rattle.beas_core.specs.Groups.{same_row}
use Rattle.std.specs.List.{filter, list_any}
use Rattle.reference_evaluation.proofs.full.set_difference.Given as goal

abbrev pub invariant-loop-row : goal.invariant-loop-row
invariant-loop-row l = l.rows ≡ filter (λ row. not (list_any (same_row row) l.right)) (take l.row-index l.left)
