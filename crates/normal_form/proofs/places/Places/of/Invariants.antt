use Rattle.std.proofs.Common.{◌≡◌, ◌<◌, ℕ, length, get_or}
use Rattle.normal_form.specs.Places.{offset}
use Rattle.normal_form.proofs.places.Places.of.Given as goal

abbrev pub invariant-loop-number : goal.invariant-loop-number
invariant-loop-number l = record {
  offsets : (k : ℕ) → k < l.number → get_or l.offsets k 0 ≡ offset l.atoms k;
  long : length l.offsets ≡ 16;
  count : l.count ≡ offset l.atoms l.number;
}
