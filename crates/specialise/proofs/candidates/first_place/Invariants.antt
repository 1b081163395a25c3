use Rattle.std.proofs.Common.{◌≡◌, ◌==◌, None, take}
use Rattle.std.specs.List.{find, flat_map, enumerate_from}
use Rattle.beas_core.specs.Classes.{class_of}
use Rattle.specialise.proofs.Places.{on_atom}
use Rattle.specialise.proofs.candidates.first_place.Given as goal

abbrev pub invariant-loop-number : goal.invariant-loop-number
invariant-loop-number l = find (λ p. class_of l.block p == l.class) (flat_map on_atom (take l.number (enumerate_from 0 l.block.atoms))) ≡ None
