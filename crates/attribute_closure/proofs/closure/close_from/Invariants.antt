use Rattle.std.proofs.Common.{◌≡◌, ◌-◌, length, map}
use Rattle.beas_core.specs.Coverage.{uses}
use Rattle.attribute_closure.specs.Uses.{as_use}
use Rattle.attribute_closure.specs.Keys.{Closing, KeysAreCounted}
use Rattle.attribute_closure.proofs.closure.close_from.Given as goal

abbrev pub invariant-loop-next : goal.invariant-loop-next
invariant-loop-next l = record {
  counted : KeysAreCounted l.block l.keys;
  uses : map as_use l.keys.uses ≡ uses l.block l.accesses;
  closing : Closing l.block (map as_use l.keys.uses) l.accesses l.start l.next l.keys.set.items l.keys.ready;
}

abbrev pub decreases-loop-next : goal.decreases-loop-next
decreases-loop-next l = length (map as_use l.keys.uses) - l.next
