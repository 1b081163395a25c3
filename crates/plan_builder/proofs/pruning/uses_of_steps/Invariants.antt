use Rattle.std.proofs.Common.{◌≡◌, map, take}
use Rattle.beas_core.specs.Derivations.{use_of}
use Rattle.attribute_closure.specs.Uses.{as_use}
use Rattle.plan_builder.proofs.pruning.uses_of_steps.Given as goal

abbrev pub invariant-loop-step : goal.invariant-loop-step
invariant-loop-step l = map as_use l.found ≡ map (use_of l.accesses) (take l.step-index l.steps)
