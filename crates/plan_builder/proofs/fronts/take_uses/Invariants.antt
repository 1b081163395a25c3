use Rattle.std.proofs.Common.{◌≡◌, ◌++◌, List, map, take}
use Rattle.beas_core.specs.Types.{ClassSet, Use}
use Rattle.attribute_closure.specs.Uses.{as_use}
use Rattle.plan_builder.specs.Fronts.{IsFront}
use Rattle.plan_builder.specs.Trials.{keys_are_bound}
use Rattle.plan_builder.proofs.DropTurns.{uses_left}
use Rattle.plan_builder.proofs.fronts.take_uses.Given as goal

abbrev pub invariant-loop-found : goal.invariant-loop-found
invariant-loop-found l = record {
  keys : keys_are_bound l.block l.initial.front.set.items (map as_use l.uses) ≡ keys_are_bound l.block l.front.set.items (uses_left l.found-index l.uses);
  front : (start : ClassSet) (done : List Use) → IsFront l.block start done l.initial.front
      → IsFront l.block start (done ++ map as_use (take l.found-index l.uses)) l.front;
}
