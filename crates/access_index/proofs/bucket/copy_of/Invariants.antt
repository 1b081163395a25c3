use Rattle.std.proofs.Common.{◌≡◌, take}
use Rattle.beas_core.specs.Groups.{project}
use Rattle.access_index.proofs.bucket.copy_of.Given as goal

abbrev pub invariant-loop-i : goal.invariant-loop-i
invariant-loop-i l = l.copy.items ≡ take l.i (project l.tuple.columns.now l.tuple.row.now)
