use Rattle.std.proofs.Common.{◌≡◌, length, map, take}
use Rattle.std.specs.List.{enumerate_from}
use Rattle.std.specs.Prelude.{vec_len, vec_capacity}
use Rattle.normal_form.specs.Places.{class_list}
use Rattle.normal_form.proofs.places.Places.class_lists.Given as goal

abbrev pub invariant-loop-atom : goal.invariant-loop-atom
invariant-loop-atom l = record {
  items : l.lists.items ≡ map (λ a. class_list l.self.atoms.now l.classes a.0 a.1.width) (take l.atom (enumerate_from 0 l.self.atoms.now));
  len : vec_len l.lists ≡ l.atom;
  room : vec_capacity l.lists ≡ length l.self.atoms.now;
}
