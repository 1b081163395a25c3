use Rattle.std.proofs.Common.{◌≡◌, ◌<◌, ◌+◌, ◌++◌, ◌∷◌, [], not, List, take, drop, length, set}
use Rattle.std.specs.Prelude.{filter}
use Rattle.std.proofs.lemmas.List.Filters.{FiltersInPlace}
use Rattle.beas_core.specs.Types.{Row}
use Rattle.beas_core.specs.Full.{meets}
use Rattle.update_guard.specs.Guarding.{IndexesOf}
use Rattle.update_guard.proofs.deleting.sweep.Given as goal

abbrev pub invariant-loop-i : goal.invariant-loop-i
invariant-loop-i g l = record {
  in_place : FiltersInPlace (λ row. not (meets l.filter (row ∷ []))) l.initial.rows l.rows l.kept l.i;
  all : l.count ≡ length l.initial.rows;
  cost : l.steps ≡ l.initial.steps + l.i;
  long : length (g.I.Indexes.seen l.indexes) ≡ length l.catalogue.accesses;
  indexed : (all : List (List Row)) → l.table.0 < length all
      → IndexesOf l.catalogue.accesses (set all l.table.0 l.initial.rows) (g.I.Indexes.seen l.initial.indexes)
      → IndexesOf l.catalogue.accesses (set all l.table.0 (filter (λ row. not (meets l.filter (row ∷ []))) (take l.i l.initial.rows) ++ drop l.i
      l.initial.rows)) (g.I.Indexes.seen l.indexes);
}
