use Rattle.std.proofs.Common.{◌≡◌, map, take}
use Rattle.beas_core.specs.Coverage.{class_at}
use Rattle.beas_core.specs.Groups.{value_at}
use Rattle.reference_evaluation.proofs.bindings.bindings_on_each.Given as goal

abbrev pub invariant-loop-row : goal.invariant-loop-row
invariant-loop-row l = l.all ≡ map (λ row. map (λ c. (class_at l.normal l.atom c, value_at row c)) l.columns) (take l.row-index l.rows)
