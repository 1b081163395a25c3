use Rattle.std.proofs.Common.{map, take, replicate, false}
use Rattle.attribute_closure.specs.Uses.{as_use}
use Rattle.attribute_closure.specs.Keys.{AreCounted}
use Rattle.attribute_closure.proofs.keys.take_up.Given as goal

abbrev pub invariant-loop-number : goal.invariant-loop-number
invariant-loop-number l = AreCounted l.block (take l.number (map as_use l.uses)) (replicate l.block.count false) l.missing.items l.waiting l.ready
