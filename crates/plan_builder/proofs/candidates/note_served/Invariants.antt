use Rattle.std.proofs.Common.{◌≡◌, map, take}
use Rattle.beas_core.specs.Coverage.{with_classes}
use Rattle.attribute_closure.specs.Uses.{as_use}
use Rattle.plan_builder.specs.Candidates.{atoms_served}
use Rattle.plan_builder.proofs.candidates.note_served.Given as goal

abbrev pub invariant-loop-number : goal.invariant-loop-number
invariant-loop-number l = l.served ≡ with_classes l.initial.served (atoms_served l.block (map as_use l.uses) (take l.number-index l.numbers))
