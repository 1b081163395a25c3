use Rattle.std.proofs.Common.{◌≡◌, ◌≤◌}
use Rattle.std.specs.Prelude.{vec_len, vec_capacity}
use Rattle.normal_form.specs.Places.{used_list}
use Rattle.normal_form.proofs.places.Places.used_list.Given as goal

abbrev pub invariant-loop-number : goal.invariant-loop-number
invariant-loop-number l = record {
  items : l.list.items ≡ used_list l.self.atoms.now l.used l.atom l.number;
  len : vec_len l.list ≤ l.number;
  room : vec_capacity l.list ≡ l.width;
}
