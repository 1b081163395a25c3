use Rattle.std.proofs.Common.{◌≡◌, ◌<◌, ◌++◌, ◌∷◌, List, [], take, length, set, get_or}
use Rattle.beas_core.specs.Types.{Row}
use Rattle.catalogue.specs.Kept.{ids_on}
use Rattle.catalogue.specs.Refusing.{broken}
use Rattle.catalogue.specs.Schema.{accesses_on}
use Rattle.catalogue.specs.Stored.{HoldOver}
use Rattle.update_guard.specs.Guarding.{IndexesOf}
use Rattle.update_guard.specs.Indexing.{AreIndexed}
use Rattle.update_guard.proofs.BoundFacts.{broken_from}
use Rattle.update_guard.proofs.IndexFacts.{AreFresh}
use Rattle.update_guard.proofs.indexing.add_row.Given as goal

-- the first k of the table's constraints hold with the row, and their indexes have it
abbrev pub invariant-loop-k : goal.invariant-loop-k
invariant-loop-k g l = record {
  long : length (g.I.Indexes.seen l.indexes) ≡ length l.catalogue.accesses;
  moved : (rows : List (List Row)) (front : List Row) → l.table.0 < length rows
      → IndexesOf l.catalogue.accesses (set rows l.table.0 front) (g.I.Indexes.seen l.initial.indexes)
      → AreIndexed l.catalogue.accesses rows l.table.0 front (front ++ l.row ∷ []) (take l.k (ids_on l.catalogue.accesses l.table.0))
      (g.I.Indexes.seen l.indexes);
  fresh : AreFresh l.catalogue.accesses l.table.0 l.k (g.I.Indexes.seen l.initial.indexes) (g.I.Indexes.seen l.indexes);
  whole : (rows : List (List Row)) → l.table.0 < length rows → IndexesOf l.catalogue.accesses rows (g.I.Indexes.seen l.initial.indexes)
      → HoldOver l.catalogue.accesses rows
      → broken (accesses_on l.catalogue.accesses l.table) (get_or rows l.table.0 [] ++ l.row ∷ [])
      ≡ broken_from (accesses_on l.catalogue.accesses l.table) (get_or rows l.table.0 [] ++ l.row ∷ []) l.k;
}
