-- The numbers of literals.
--     number_value negative digits      the number, where an i64 has it
use Rattle.std.specs.Prelude.{ℕ, ℤ, pos, neg_ℤ, ◌&&◌, ◌^◌, Bool, true, false, nat_le, nat_lt, if◌then◌else◌, List, length, Option, Some, None, option_map}
use Rattle.std.specs.Str.{all_ascii_digits}
use Rattle.beas_core.specs.declared.value.Value.{Value}
use Rattle.beas_core.specs.declared.value.Value.TheVariants.{Int}
use Rattle.std.specs.Str.Parse.{digits_value}

-- a number with its sign, where an i64 has it
abbrev pub in_range : Bool → ℕ → Option ℤ
in_range false n = if nat_lt n (2 ^ 63) then Some (pos n) else None
in_range true n = if nat_le n (2 ^ 63) then Some (neg_ℤ (pos n)) else None

unfoldable pub signed_number : Bool → List ℕ → Option ℤ
signed_number negative digits =
    if all_ascii_digits digits && nat_lt 0 (length digits)
    then in_range negative (digits_value 10 digits) else None

abbrev pub number_value : Bool → List ℕ → Option Value
number_value negative digits = option_map (λ z. Int z) (signed_number negative digits)
