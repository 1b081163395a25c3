use Rattle.std.proofs.Common.{◌≡◌, map, take}
use Rattle.beas_core.specs.Coverage.{with_classes, class_at}
use Rattle.specialise.proofs.candidates.note_columns.Given as goal

abbrev pub invariant-loop-column : goal.invariant-loop-column
invariant-loop-column l = l.asked ≡ with_classes l.fn.asked (map (class_at l.block l.atom) (take l.column-index l.columns))
