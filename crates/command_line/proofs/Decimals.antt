-- What `parse` gives of decimal digits.
use Rattle.std.proofs.Common.{◌≡◌, ◌+◌, ◌^◌, ℕ, List, Bool, true, false, Ok, Err, Some, None, Result, length, refl, arith, ap, rules}
use Rattle.std.specs.Prelude.{nat_le}
use Rattle.std.specs.Char.{is_ascii_digit}
use Rattle.std.specs.List.{list_all}
use Rattle.std.specs.Result.{result_ok}
use Rattle.std.specs.Str.Parse.{ParsesUnsigned, digits_value}
use Rattle.std.proofs.lemmas.Bool.{le-leb}
use Rattle.std.proofs.lemmas.Bool.Decides.{nat_tests}
use Rattle.std.proofs.lemmas.Str.Parse.{IsNumeralModel, numerals_by_value, parse_digits}
use Rattle.beas_core.specs.Spelling.{number_within}

own : IsNumeralModel (λ ds. list_all is_ascii_digit ds ≡ true) (digits_value 10)
own = numerals_by_value (λ ds. list_all is_ascii_digit ds ≡ true) (search rules)

-- no number is below the least
least : (n : ℕ) → nat_le 0 n ≡ true
least n = le-leb 0 n (omega arith)

-- Digits alone are read as the number that they spell, where it has k bits.
pub number_read : {E : Type 0} (k greatest : ℕ) (bs : List ℕ) (r : Result ℕ E) → greatest + 1 ≡ 2 ^ k → ParsesUnsigned k 10 bs r
    → list_all is_ascii_digit bs ≡ true → result_ok r ≡ number_within 0 greatest bs
number_read {E} k greatest bs (Ok n) e h digits =
    let read = parse_digits own {E = E} k bs (Ok n) h digits in
    let some : nat_le 1 (length bs) ≡ true = grind (arith, nat_tests, read.0.0) in
    let within : nat_le (digits_value 10 bs) greatest ≡ true = grind (arith, nat_tests, read.0.1) in
    rw (digits, some, least (digits_value 10 bs), within) (ap (λ m. Some m) read.1)
number_read {E} k greatest bs (Err why) e h digits = unread (nat_le 1 (length bs)) (nat_le (digits_value 10 bs) greatest) refl refl
  where
    unread : (some within : Bool) → nat_le 1 (length bs) ≡ some → nat_le (digits_value 10 bs) greatest ≡ within → None ≡ number_within 0 greatest bs
    unread true true is_some is_within =
        absurd (parse_digits own {E = E} k bs (Err why) h digits (grind (arith, nat_tests, is_some), grind (arith, nat_tests, is_within)))
    unread true false is_some is_within = rw (is_some, digits, least (digits_value 10 bs), is_within) refl
    unread false within is_some is_within = rw is_some refl
