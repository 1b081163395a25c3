use Rattle.std.proofs.Common.{◌≡◌, length, map, take, get_or}
use Rattle.std.specs.Prelude.{vec_len, vec_capacity}
use Rattle.normal_form.specs.Places.{place_number}
use Rattle.normal_form.proofs.places.Places.constants_at.Given as goal

abbrev pub invariant-loop-constant : goal.invariant-loop-constant
invariant-loop-constant l = record {
  items : l.list.items ≡ map (λ c. (get_or l.classes (place_number l.self.atoms.now c.0) 0, c.1)) (take l.constant-index l.constants);
  len : vec_len l.list ≡ l.constant-index;
  room : vec_capacity l.list ≡ length l.constants;
}
