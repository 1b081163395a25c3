-- How a hasher mixes what it is fed.
--     mixed factor state input    both halves of (state xor input) times a factor, joined
--     input_of factor bytes       the input of some bytes: eight of them, or one, are the number that they spell, and others are
--                                 hashed behind the factor
use Rattle.std.specs.Prelude.{ℕ, List, length, nat_eq, if◌then◌else◌, slice_index, bit_xor}
use Rattle.std.specs.Int.{w64, from_le_bytes}
use Rattle.std.specs.Hash.DefaultHasher as sip
use Rattle.std.specs.Hash.FoldHasher as folding
use Rattle.std.specs.Hash.{u64}
use Rattle.std.specs.List.{fold}

unfoldable pub mixed : ℕ → ℕ → ℕ → ℕ
mixed factor state input = folding.folded_multiply (bit_xor state input) factor

abbrev pub input_of : ℕ → List ℕ → ℕ
input_of factor bytes =
    if nat_eq (length bytes) 8 then from_le_bytes w64 bytes
    else (if nat_eq (length bytes) 1 then slice_index bytes 0
    else sip.finish (sip.write (fold sip.write sip.initial (u64 factor)) bytes))
