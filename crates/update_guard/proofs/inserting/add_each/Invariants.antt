use Rattle.std.proofs.Common.{◌≡◌, ◌<◌, ◌++◌, [], List, map, take, drop, length, set, get_or}
use Rattle.std.specs.Prelude.{option_map}
use Rattle.std.specs.List.{enumerate_from}
use Rattle.beas_core.specs.Types.{Row}
use Rattle.catalogue.specs.Schema.{accesses_on}
use Rattle.catalogue.specs.Refusing.{broken_bound, first_of, broken, breaks_bound}
use Rattle.update_guard.specs.Guarding.{IndexesOf}
use Rattle.catalogue.specs.Stored.{HoldOver}
use Rattle.update_guard.proofs.inserting.add_each.Given as goal

abbrev pub invariant-loop-i : goal.invariant-loop-i
invariant-loop-i g l = record {
  long : length (g.I.Indexes.seen l.indexes) ≡ length l.catalogue.accesses;
  added : (all : List (List Row)) (front : List Row) → l.table.0 < length all
      → IndexesOf l.catalogue.accesses (set all l.table.0 front) (g.I.Indexes.seen l.initial.indexes)
      → IndexesOf l.catalogue.accesses (set all l.table.0 (front ++ take l.i l.rows)) (g.I.Indexes.seen l.indexes);
  holds : (all : List (List Row)) → l.table.0 < length all
      → IndexesOf l.catalogue.accesses all (g.I.Indexes.seen l.initial.indexes) → HoldOver l.catalogue.accesses all
      → HoldOver l.catalogue.accesses (set all l.table.0 (get_or all l.table.0 [] ++ take l.i l.rows));
  refused : (all : List (List Row)) → l.table.0 < length all
      → IndexesOf l.catalogue.accesses all (g.I.Indexes.seen l.initial.indexes) → HoldOver l.catalogue.accesses all
      → broken_bound (accesses_on l.catalogue.accesses l.table) (get_or all l.table.0 []) l.rows
      ≡ first_of (map (λ r. option_map (breaks_bound r) (broken (accesses_on l.catalogue.accesses l.table) (get_or all l.table.0 [] ++ take r.0 l.rows)))
      (drop l.i (enumerate_from 1 l.rows)));
}
