use Rattle.std.proofs.Common.{◌≡◌, false, map, take}
use Rattle.attribute_closure.specs.Uses.{as_use}
use Rattle.plan_builder.specs.Plans.{served_among}
use Rattle.plan_builder.proofs.derivations.is_served_among.Given as goal

abbrev pub invariant-loop-found : goal.invariant-loop-found
invariant-loop-found l = served_among l.block l.atom (map as_use (take l.found-index l.taken)) ≡ false
