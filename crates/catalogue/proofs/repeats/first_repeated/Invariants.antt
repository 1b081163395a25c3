use Rattle.std.proofs.Common.{◌≡◌, map, List, ℕ, take, is_some}
use Rattle.std.specs.List.{list_any}
use Rattle.std.specs.Str.{bytes_eq}
use Rattle.indexmap.specs.IndexMap.{get_by}
use Rattle.catalogue.specs.Refusing.{first_repeated}
use Rattle.catalogue.proofs.RepeatFacts.{repeated_from}
use Rattle.catalogue.proofs.repeats.first_repeated.Given as goal

abbrev pub invariant-loop-item : goal.invariant-loop-item
invariant-loop-item g l = record {
  seen : (q : List ℕ) → is_some (get_by (λ k. bytes_eq q k.now) l.seen) ≡ list_any (bytes_eq q) (take l.item-index (map g.T.Named.name_of l.items));
  none : first_repeated (map g.T.Named.name_of l.items) ≡ repeated_from (map g.T.Named.name_of l.items) l.item-index;
}
