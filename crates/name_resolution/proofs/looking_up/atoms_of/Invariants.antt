use Rattle.std.proofs.Common.{◌≡◌, map, take}
use Rattle.name_resolution.specs.LookedUp.{atom_of}
use Rattle.name_resolution.proofs.looking_up.atoms_of.Given as goal

abbrev pub invariant-loop-item : goal.invariant-loop-item
invariant-loop-item l = l.atoms ≡ map (atom_of l.catalogue) (take l.item-index l.items)
