use Rattle.std.proofs.Common.{◌≡◌, ◌+◌, take}
use Rattle.partial_plan.specs.Scans.{scanned_rows, sizes_of_tables}
use Rattle.partial_plan.proofs.used.with_scanned.Given as goal

-- the number with the rows that the scans so far read
abbrev pub invariant-loop-scan : goal.invariant-loop-scan
invariant-loop-scan l = l.whole ≡ scanned_rows (sizes_of_tables l.tables) (take l.scan-index l.scans) + l.number
