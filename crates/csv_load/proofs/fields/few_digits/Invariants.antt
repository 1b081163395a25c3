use Rattle.std.proofs.Common.{◌≡◌, ◌<◌, drop}
use Rattle.std.specs.Str.{all_ascii_digits}
use Rattle.std.specs.Str.Parse.{digits_value, digits_value_after}
use Rattle.csv_load.proofs.fields.few_digits.Given as goal

-- the bytes so far are digits, of this number
abbrev pub invariant-loop-digit : goal.invariant-loop-digit
invariant-loop-digit l =
    (all_ascii_digits (drop l.digit-index l.field) ≡ all_ascii_digits l.field)
    × (digits_value_after 10 l.number (drop l.digit-index l.field) ≡ digits_value 10 l.field)
    × (l.number < 1000000000000000010)
