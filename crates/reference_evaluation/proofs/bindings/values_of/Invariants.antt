use Rattle.std.proofs.Common.{◌≡◌, map, take}
use Rattle.beas_core.specs.Valuations.{value_of}
use Rattle.reference_evaluation.proofs.bindings.values_of.Given as goal

abbrev pub invariant-loop-class : goal.invariant-loop-class
invariant-loop-class l = l.row ≡ map (value_of l.bindings) (take l.class-index l.classes)
