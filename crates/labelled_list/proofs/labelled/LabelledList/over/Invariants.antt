use Rattle.std.proofs.Common.{◌≡◌, take}
use Rattle.labelled_list.proofs.labelled.LabelledList.over.Given as goal

abbrev pub invariant-loop-i : goal.invariant-loop-i
invariant-loop-i l = record {
  walk : l.walk ≡ l.tuples;
  list : l.list ≡ take l.i l.tuples;
}
