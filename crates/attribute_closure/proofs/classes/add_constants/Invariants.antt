use Rattle.std.proofs.Common.{◌≡◌, map, take}
use Rattle.beas_core.specs.Coverage.{with_classes}
use Rattle.attribute_closure.proofs.classes.add_constants.Given as goal

abbrev pub invariant-loop-constant : goal.invariant-loop-constant
invariant-loop-constant l = l.set ≡ with_classes l.initial.set (map (λ c. c.0) (take l.constant-index l.constants))
