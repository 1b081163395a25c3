-- The hash of a key, value by value.
use Rattle.std.proofs.Common.{◌≡◌, ◌<◌, ◌+◌, [], ℕ, List, length, take, get_or, refl}
use Rattle.std.proofs.lemmas.List.Sums.{fold_more}
use Rattle.beas_core.specs.declared.value.Value.{Value}
use Rattle.seeded_hash.specs.declared.hasher.TheConstants.{FIXED_FACTOR}
use Rattle.seeded_hash.specs.Mixing.{mixed}
use Rattle.place_chains.specs.Hashing.{hash_of, number_of}

-- the number of one value more is mixed in
pub hash_more : (step : ℕ) (key : List Value) (i : ℕ) (d : Value) → i < length key
    → hash_of step (take (i + 1) key) ≡ mixed FIXED_FACTOR (hash_of step (take i key)) (number_of (get_or key i d))
unfolding hash_of
hash_more step key i d l = fold_more (λ state value. mixed FIXED_FACTOR state (number_of value)) (mixed FIXED_FACTOR step 0) key i d l
