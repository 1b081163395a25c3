use Rattle.std.proofs.Common.{◌≡◌, ◌+◌, ◌-◌, ◌*◌, length}
use Rattle.labelled_list.specs.Labels.{in_order}
use Rattle.labelled_list.specs.Spreads.{IsSpread}
use Rattle.labelled_list.proofs.labels.spread.Given as goal

abbrev pub invariant-loop-i : goal.invariant-loop-i
invariant-loop-i l = record {
  walk : l.walk ≡ l.slots;
  same_length : length l.tuples.entries ≡ length l.initial.tuples.entries;
  label : l.label ≡ l.low + l.step * (l.i - l.first);
  spread : IsSpread (in_order l.initial.tuples.entries l.slots) (in_order l.tuples.entries l.slots) l.first l.i l.low l.step;
}
