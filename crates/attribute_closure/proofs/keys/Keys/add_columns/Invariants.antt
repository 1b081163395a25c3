use Rattle.std.proofs.Common.{◌≡◌, map, take}
use Rattle.beas_core.specs.Coverage.{class_at, with_classes}
use Rattle.attribute_closure.specs.Keys.{GoesOn, KeysAreCounted}
use Rattle.attribute_closure.proofs.keys.Keys.add_columns.Given as goal

abbrev pub invariant-loop-column : goal.invariant-loop-column
invariant-loop-column l = record {
  counted : KeysAreCounted l.block l.self;
  set : l.self.set.items ≡ with_classes l.initial.self.set.items (map (class_at l.block l.atom) (take l.column-index l.columns));
  uses : l.self.uses ≡ l.initial.self.uses;
  goes_on : GoesOn l.initial.self.ready l.self.ready;
}
