use Rattle.std.proofs.Common.{◌≡◌, take}
use Rattle.beas_core.specs.Groups.{project}
use Rattle.update_guard.proofs.breaking.values_in.Given as goal

abbrev pub invariant-loop-column : goal.invariant-loop-column
invariant-loop-column l = l.values ≡ project (take l.column-index l.columns) l.row
