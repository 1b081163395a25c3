use Rattle.std.proofs.Common.{◌≡◌, ◌++◌, ◌-◌, map, take}
use Rattle.plan_ops.specs.Matching.{shared_in}
use Rattle.plan_ops.proofs.shared.push_tuple_places.Given as goal

abbrev pub invariant-loop-check : goal.invariant-loop-check
invariant-loop-check l = l.places.items ≡ l.initial.places.items ++ map (λ c. c.0 - l.width) (shared_in l.width (take l.check-index l.checks))
