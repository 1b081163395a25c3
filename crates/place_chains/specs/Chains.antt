-- Places that have a hash.
--     IsLast hash hashes end found     the last place before `end` that has the hash, or none
use Rattle.std.specs.Prelude.{◌≡◌, ◌<◌, ℕ, List, Option, None, Some, slice_index_or}

abbrev pub IsLast : ℕ → List ℕ → ℕ → Option ℕ → Type 0
IsLast hash hashes end None = (i : ℕ) → i < end → slice_index_or hashes i 0 ≡ hash → ⊥
IsLast hash hashes end (Some p) = (p < end) × (slice_index_or hashes p 0 ≡ hash)
    × ((i : ℕ) → p < i → i < end → slice_index_or hashes i 0 ≡ hash → ⊥)
