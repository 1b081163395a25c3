use Rattle.std.proofs.Common.{◌≡◌, map, take}
use Rattle.beas_core.specs.Coverage.{class_at, with_classes}
use Rattle.plan_builder.proofs.sets.add_columns.Given as goal

abbrev pub invariant-loop-column : goal.invariant-loop-column
invariant-loop-column l = l.set ≡ with_classes l.initial.set (map (class_at l.block l.atom) (take l.column-index l.columns))
