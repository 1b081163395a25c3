use Rattle.std.proofs.Common.{◌≡◌, ◌++◌, map, take}
use Rattle.beas_core.specs.Coverage.{place_class}
use Rattle.plan_ops.proofs.starting.classes_with_output.Given as goal

abbrev pub invariant-loop-place : goal.invariant-loop-place
invariant-loop-place l = l.classes.items ≡ map (λ c. c.0) l.block.constants ++ map (place_class l.block) (take l.place-index l.block.output)
