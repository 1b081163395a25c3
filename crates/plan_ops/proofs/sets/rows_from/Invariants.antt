use Rattle.std.proofs.Common.{◌≡◌, drop}
use Rattle.plan_ops.specs.Merging.{from_row}
use Rattle.plan_ops.proofs.sets.rows_from.Given as goal

abbrev pub invariant-loop-at : goal.invariant-loop-at
invariant-loop-at l = from_row l.row l.rows ≡ from_row l.row (drop l.at l.rows)
