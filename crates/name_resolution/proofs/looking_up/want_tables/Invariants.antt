use Rattle.std.proofs.Common.{◌≡◌}
use Rattle.std.specs.List.{flat_map}
use Rattle.name_resolution.specs.Refusing.{first, table_refusals}
use Rattle.name_resolution.proofs.FirstFacts.{first_from}
use Rattle.name_resolution.proofs.looking_up.want_tables.Given as goal

abbrev pub invariant-loop-item : goal.invariant-loop-item
invariant-loop-item l = first_from (λ item. table_refusals l.catalogue item.table) l.items l.item-index ≡ first (flat_map
    (λ item. table_refusals l.catalogue item.table) l.items)
