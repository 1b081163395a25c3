use Rattle.std.proofs.Common.{◌≡◌, map, take}
use Rattle.std.specs.List.{filter}
use Rattle.std.specs.Option.{option_map}
use Rattle.beas_core.specs.Derivations.{least_bound}
use Rattle.attribute_closure.specs.Uses.{as_use}
use Rattle.plan_builder.specs.Choices.{may_add}
use Rattle.plan_builder.proofs.choices.best_adding.Given as goal

abbrev pub invariant-loop-found : goal.invariant-loop-found
invariant-loop-found l = option_map as_use l.best ≡ least_bound (filter (may_add l.block l.set) (map as_use (take l.found-index l.uses)))
