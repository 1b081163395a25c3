use Rattle.std.proofs.Common.{◌++◌, map, take}
use Rattle.std.specs.BinaryHeap.{IsHeap, heap_items}
use Rattle.std.specs.List.Sorted.{IsPermutation}
use Rattle.attribute_closure.specs.Uses.{as_use}
use Rattle.plan_builder.specs.Candidates.{entry_of, later}
use Rattle.plan_builder.proofs.candidates.push_all.Given as goal

abbrev pub invariant-loop-number : goal.invariant-loop-number
invariant-loop-number l = record {
  order : IsHeap later (heap_items l.initial.waiting) → IsHeap later (heap_items l.waiting);
  items : IsPermutation (heap_items l.initial.waiting ++ map (entry_of (map as_use l.uses)) (take l.number-index l.numbers)) (heap_items l.waiting);
}
