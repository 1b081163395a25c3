use Rattle.std.proofs.Common.{◌≡◌}
use Rattle.std.specs.List.{flat_map}
use Rattle.name_resolution.specs.Refusing.{first, flaws}
use Rattle.name_resolution.proofs.FirstFacts.{first_from}
use Rattle.name_resolution.proofs.refusing.refuse_items.Given as goal

abbrev pub invariant-loop-item : goal.invariant-loop-item
invariant-loop-item l = first_from (flaws l.flaw l.limit) l.items l.item-index ≡ first (flat_map (flaws l.flaw l.limit) l.items)
