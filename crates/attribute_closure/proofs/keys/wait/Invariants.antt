use Rattle.std.proofs.Common.{map, take}
use Rattle.beas_core.specs.Coverage.{class_at}
use Rattle.attribute_closure.specs.Keys.{WaitsFor}
use Rattle.attribute_closure.proofs.keys.wait.Given as goal

abbrev pub invariant-loop-column : goal.invariant-loop-column
invariant-loop-column l = WaitsFor l.block.count l.number (map (class_at l.block l.found.atom)
    (take l.column-index l.found.access.now.key)) l.initial.waiting l.waiting
