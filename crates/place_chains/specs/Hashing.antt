-- Hashes of keys, by which what a probe found is found again.
--     number_of value            the number that stands for a value: its own, and of a text its hash
--     hash_of step key           the hash of a step and a key: the step is mixed, and then the numbers of the values one after another
use Rattle.std.specs.Prelude.{ℕ}
use Rattle.std.specs.Int.{w64, cast_unsigned}
use Rattle.std.specs.List.{fold}
use Rattle.std.specs.Hash.FoldHasher as folding
use Rattle.beas_core.specs.declared.value.Value.{Value}
use Rattle.beas_core.specs.declared.value.Value.TheVariants.{Int, Str}
use Rattle.beas_core.specs.Hashing.{writes_of}
use Rattle.beas_core.specs.Types.{Row}
use Rattle.seeded_hash.specs.declared.hasher.TheConstants.{FIXED_FACTOR}
use Rattle.seeded_hash.specs.Mixing.{mixed}

abbrev pub number_of : Value → ℕ
number_of (Int n) = cast_unsigned w64 n
number_of (Str t) = folding.finish (fold folding.write folding.initial (writes_of (Str t)))

unfoldable pub hash_of : ℕ → Row → ℕ
hash_of step key = fold (λ state value. mixed FIXED_FACTOR state (number_of value)) (mixed FIXED_FACTOR step 0) key
