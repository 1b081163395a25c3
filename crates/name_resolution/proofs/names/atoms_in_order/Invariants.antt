use Rattle.std.proofs.Common.{◌≡◌, take, map}
use Rattle.name_resolution.specs.LookedUp.{atom_of}
use Rattle.name_resolution.specs.Meanings.{sources}
use Rattle.name_resolution.specs.Scopes.{source_of}
use Rattle.name_resolution.proofs.AliasFacts.{OnceBelow}
use Rattle.name_resolution.proofs.names.atoms_in_order.Given as goal

-- the atoms so far, none of whose aliases stands twice
abbrev pub invariant-loop-item : goal.invariant-loop-item
invariant-loop-item l = record {
  so_far : map source_of l.atoms.items ≡ sources l.catalogue (take l.item-index l.items);
  atoms : map (λ a. a.atom) l.atoms.items ≡ map (atom_of l.catalogue) (take l.item-index l.items);
  once : OnceBelow l.items l.item-index;
}
