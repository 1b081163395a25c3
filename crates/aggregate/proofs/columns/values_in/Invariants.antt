use Rattle.std.proofs.Common.{◌≡◌, map, take}
use Rattle.aggregate.specs.Grouping.{column_of}
use Rattle.aggregate.proofs.columns.values_in.Given as goal

abbrev pub invariant-loop-row : goal.invariant-loop-row
invariant-loop-row l = l.values.items ≡ map (column_of l.column) (take l.row-index l.group)
