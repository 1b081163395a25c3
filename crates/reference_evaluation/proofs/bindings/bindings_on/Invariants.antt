use Rattle.std.proofs.Common.{◌≡◌, map, take}
use Rattle.beas_core.specs.Coverage.{class_at}
use Rattle.beas_core.specs.Groups.{value_at}
use Rattle.reference_evaluation.proofs.bindings.bindings_on.Given as goal

abbrev pub invariant-loop-column : goal.invariant-loop-column
invariant-loop-column l = l.bindings ≡ map (λ c. (class_at l.normal l.atom c, value_at l.row c)) (take l.column-index l.columns)
