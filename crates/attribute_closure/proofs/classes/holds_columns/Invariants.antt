use Rattle.std.proofs.Common.{◌≡◌, true, map, take}
use Rattle.beas_core.specs.Coverage.{class_at, holds_classes}
use Rattle.attribute_closure.proofs.classes.holds_columns.Given as goal

abbrev pub invariant-loop-column : goal.invariant-loop-column
invariant-loop-column l = holds_classes l.set (map (class_at l.block l.atom) (take l.column-index l.columns)) ≡ true
