use Rattle.std.proofs.Common.{◌≡◌, ◌++◌, map}
use Rattle.attribute_closure.specs.Uses.{as_use}
use Rattle.plan_builder.specs.Trials.{steps_from}
use Rattle.plan_builder.proofs.DropTurns.{uses_left}
use Rattle.plan_builder.proofs.pruning.steps_of.Given as goal

abbrev pub invariant-loop-found : goal.invariant-loop-found
invariant-loop-found l = steps_from l.block l.initial.set (map as_use l.uses) ≡ l.steps ++ steps_from l.block l.set (uses_left l.found-index l.uses)
