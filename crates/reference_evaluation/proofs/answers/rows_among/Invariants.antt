use Rattle.std.proofs.Common.{◌≡◌, take}
use Rattle.std.specs.List.{filter, list_any}
use Rattle.beas_core.specs.Groups.{same_row}
use Rattle.reference_evaluation.proofs.answers.rows_among.Given as goal

abbrev pub invariant-loop-row : goal.invariant-loop-row
invariant-loop-row l = l.rows ≡ filter (λ row. list_any (same_row row) l.answers) (take l.row-index l.found)
