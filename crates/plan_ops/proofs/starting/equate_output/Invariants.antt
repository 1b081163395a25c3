use Rattle.std.proofs.Common.{◌≡◌, ◌++◌, map, take}
use Rattle.std.specs.List.{zip}
use Rattle.beas_core.specs.Coverage.{place_class}
use Rattle.plan_ops.proofs.starting.equate_output.Given as goal

abbrev pub invariant-loop-at : goal.invariant-loop-at
invariant-loop-at l = l.constants.items ≡ l.fn.constants.items ++ zip (map (place_class l.block) (take l.at l.block.output)) (take l.at l.row)
