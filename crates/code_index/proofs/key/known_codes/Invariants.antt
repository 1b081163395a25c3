use Rattle.std.proofs.Common.{◌≡◌, ◌<◌, ℕ, length, get_or}
use Rattle.std.specs.Prelude.{pos}
use Rattle.beas_core.specs.declared.value.Value.TheVariants.{Int}
use Rattle.code_index.specs.Spelling.{IsCodeOf}
use Rattle.code_index.proofs.key.known_codes.Given as goal

abbrev pub invariant-loop-i : goal.invariant-loop-i
invariant-loop-i g l = record {
  len : length l.key_codes ≡ g.row.N;
  right : (j : ℕ) → j < l.i → IsCodeOf l.codes (get_or l.key_codes j 0) (get_or l.key j (Int (pos 0)));
}
