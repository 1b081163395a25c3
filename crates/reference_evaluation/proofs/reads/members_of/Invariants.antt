use Rattle.std.proofs.Common.{◌≡◌, map, take}
use Rattle.beas_core.specs.Groups.{project, same_row}
use Rattle.std.specs.List.{filter}
use Rattle.reference_evaluation.proofs.reads.members_of.Given as goal

abbrev pub invariant-loop-row : goal.invariant-loop-row
invariant-loop-row l = l.members ≡ map (project l.columns) (filter (λ row. same_row (project l.key_columns row) l.key) (take l.row-index l.rows))
