-- The hash of a list of values, by which groups are told apart at first.
use Rattle.std.specs.Prelude.{ℕ, pos, unsigned_abs, fold, List, Option, None, Some}
use Rattle.beas_core.specs.declared.value.Value.{Value}
use Rattle.beas_core.specs.declared.value.Value.TheVariants.{Int, Str}
use Rattle.seeded_hash.specs.declared.hasher.TheConstants.{FIXED_FACTOR}
use Rattle.seeded_hash.specs.Mixing.{mixed}

abbrev pub with_value : ℕ → Value → ℕ
with_value state (Int n) = mixed FIXED_FACTOR state (unsigned_abs n)
with_value state (Str text) = fold (mixed FIXED_FACTOR) state text

unfoldable pub hash_of : List Value → ℕ
hash_of values = fold with_value 0x243F6A8885A308D3 values

-- a value that may be absent, which counts as the integer 0
abbrev pub or_zero : Option Value → Value
or_zero None = Int (pos 0)
or_zero (Some value) = value
