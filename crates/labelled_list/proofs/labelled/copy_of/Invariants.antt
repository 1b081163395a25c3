use Rattle.std.proofs.Common.{◌≡◌, take}
use Rattle.labelled_list.specs.Labels.{items_of}
use Rattle.labelled_list.proofs.labelled.copy_of.Given as goal

abbrev pub invariant-loop-i : goal.invariant-loop-i
invariant-loop-i l = record {
  walk : l.walk ≡ l.slots;
  copy : l.copy ≡ take l.i (items_of l.tuples.entries l.slots);
}
