use Rattle.std.proofs.Common.{map}
use Rattle.std.specs.BinaryHeap.{heap_items, heap_len}
use Rattle.attribute_closure.specs.Uses.{as_use}
use Rattle.plan_builder.specs.Candidates.{AreWaiting}
use Rattle.plan_builder.proofs.candidates.next_adding.Given as goal

abbrev pub invariant-loop-next : goal.invariant-loop-next
invariant-loop-next l = AreWaiting l.block (map as_use l.uses) l.set (heap_items l.waiting)

abbrev pub decreases-loop-next : goal.decreases-loop-next
decreases-loop-next l = heap_len l.waiting
