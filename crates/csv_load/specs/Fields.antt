-- What one field of a record says.
--     names field column          the field of a header names this column
--     integer_in field            the number of an optional sign and digits, where it is an i64
--     cell longest kind field     the field's value in a column of this kind, where it has one
use Rattle.std.specs.Prelude.{◌&&◌, if◌then◌else◌, Bool, ℕ, ℤ, List, length, nat_le, Option, Some, None, option_map}
use Rattle.std.specs.Str.{all_ascii_digits, is_utf8, str_eq_ignore_ascii_case}
use Rattle.std.specs.Str.Parse.{digits_value, signed_digits_value, starts_with_minus, without_leading_sign}
use Rattle.beas_core.specs.declared.value.Value.{Value}
use Rattle.beas_core.specs.declared.value.Value.TheVariants.{Int, Str}
use Rattle.beas_core.specs.declared.schema.ColType.{ColType}
use Rattle.beas_core.specs.declared.schema.ColType.TheVariants.{Integer, Words}
use Rattle.beas_core.specs.declared.schema.Column.{Column}

-- in any case of its letters
abbrev pub names : List ℕ → Column → Bool
names field column = str_eq_ignore_ascii_case field column.name

-- the greatest distance from 0 that an i64 has on the side of the sign
abbrev pub greatest_digits : List ℕ → ℕ
greatest_digits field = if starts_with_minus field then 9223372036854775808 else 9223372036854775807

abbrev pub is_integer : List ℕ → Bool
is_integer field =
    all_ascii_digits (without_leading_sign field)
    && nat_le 1 (length (without_leading_sign field))
    && nat_le (digits_value 10 (without_leading_sign field)) (greatest_digits field)

abbrev pub integer_in : List ℕ → Option ℤ
integer_in field = if is_integer field then Some (signed_digits_value 10 field) else None

abbrev pub text_in : List ℕ → Option (List ℕ)
text_in field = if is_utf8 field then Some field else None

abbrev pub short_text_in : ℕ → List ℕ → Option (List ℕ)
short_text_in longest field = if nat_le (length field) longest then text_in field else None

-- an integer, or UTF-8 of at most so many bytes
abbrev pub cell : ℕ → ColType → List ℕ → Option Value
cell longest Integer field = option_map Int (integer_in field)
cell longest Words field = option_map Str (short_text_in longest field)
