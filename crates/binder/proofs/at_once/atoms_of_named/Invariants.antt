use Rattle.std.proofs.Common.{◌≡◌, map, take}
use Rattle.binder.proofs.at_once.atoms_of_named.Given as goal

abbrev pub invariant-loop-atom : goal.invariant-loop-atom
invariant-loop-atom l = l.atoms.items ≡ map (λ a. a.atom) (take l.atom-index l.named)
