use Rattle.std.proofs.Common.{◌≡◌, ◌<◌, ◌++◌, List, take, drop, length}
use Rattle.beas_core.specs.Types.{Row}
use Rattle.catalogue.specs.Kept.{ids_on}
use Rattle.update_guard.specs.Indexing.{AreIndexed}
use Rattle.update_guard.proofs.indexing.remove_rows_from.Given as goal

abbrev pub invariant-loop-k : goal.invariant-loop-k
invariant-loop-k g l = record {
  long : length (g.I.Indexes.seen l.indexes) ≡ length l.catalogue.accesses;
  moved : (rows : List (List Row)) (front : List Row) → l.table.0 < length rows
      → AreIndexed l.catalogue.accesses rows l.table.0 front (front ++ l.added) (take l.n (ids_on l.catalogue.accesses l.table.0)) (g.I.Indexes.seen l.initial.indexes)
      → AreIndexed l.catalogue.accesses rows l.table.0 front (front ++ l.added) (drop l.k (take l.n (ids_on l.catalogue.accesses l.table.0))) (g.I.Indexes.seen l.indexes);
}
