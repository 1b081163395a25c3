use Rattle.std.proofs.Common.{◌≡◌, map, take}
use Rattle.beas_core.specs.Valuations.{is_consistent, value_of}
use Rattle.std.specs.List.{filter}
use Rattle.reference_evaluation.proofs.bindings.rows_on.Given as goal

abbrev pub invariant-loop-way : goal.invariant-loop-way
invariant-loop-way l = l.rows ≡ map (λ w. map (value_of w) l.classes) (filter (is_consistent l.normal l.set) (take l.way-index l.found))
