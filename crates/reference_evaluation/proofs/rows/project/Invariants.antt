use Rattle.std.proofs.Common.{◌≡◌, take}
use Rattle.beas_core.specs.Groups.{project}
use Rattle.reference_evaluation.proofs.rows.project.Given as goal

abbrev pub invariant-loop-column : goal.invariant-loop-column
invariant-loop-column l = l.part ≡ project (take l.column-index l.columns) l.row
