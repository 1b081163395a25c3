use Rattle.std.proofs.Common.{◌≡◌, ◌+◌, take}
use Rattle.partial_plan.specs.Scans.{AreBuilt, scanned_rows, sizes_of_tables}
use Rattle.partial_plan.proofs.building.build_indexes.Given as goal

-- the scans so far have their indexes, and the rows of their tables were read
abbrev pub invariant-loop-scan : goal.invariant-loop-scan
invariant-loop-scan g l = record {
  built : AreBuilt l.tables (take l.scan-index l.scans) l.indexes;
  cost : l.steps ≡ l.initial.steps + scanned_rows (sizes_of_tables l.tables) (take l.scan-index l.scans);
}
