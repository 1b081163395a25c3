-- Digits, and those whose value no u64 has.
use Rattle.std.proofs.Common.{◌≡◌, ◌<◌, ◌≤◌, ◌^◌, ℕ, List, [], ◌∷◌, ◌&&◌, Bool, true, false, Err, None, Result, length, refl, ap, arith, ltb}
use Rattle.std.specs.Char.{is_ascii_digit}
use Rattle.std.specs.List.{list_all}
use Rattle.std.specs.Str.{all_ascii_digits}
use Rattle.std.specs.Str.Parse.{ParsesUnsigned, digits_value}
use Rattle.std.proofs.lemmas.Bool.Decides.{nat_tests}
use Rattle.std.proofs.lemmas.Result.{OkIff-at_err}
use Rattle.std.proofs.lemmas.Str.Parse.{IsNumeralModel, numerals_by_value, tells_all_ascii_digits, parse_digits}
use Rattle.name_resolution.specs.Literals.{in_range, signed_number}

pub digits_each : (bs : List ℕ) → list_all is_ascii_digit bs ≡ all_ascii_digits bs
digits_each [] = refl
digits_each (b ∷ bs) = ap (λ rest. is_ascii_digit b && rest) (digits_each bs)

own : IsNumeralModel (λ ds. all_ascii_digits ds ≡ true) (digits_value 10)
own = numerals_by_value (λ ds. all_ascii_digits ds ≡ true) tells_all_ascii_digits

past : (negative : Bool) (n : ℕ) → 2 ^ 64 ≤ n → in_range negative n ≡ None
past false n big = grind (arith, nat_tests)
past true n big = grind (arith, nat_tests)

-- what `parse` doesn't read is past an i64, too
pub unread : {E : Type 0} (negative : Bool) (bs : List ℕ) (r : Result ℕ E) (e : E) → ParsesUnsigned 64 10 bs r → all_ascii_digits bs ≡ true → 0 < length bs
    → r ≡ Err e → signed_number negative bs ≡ None
unfolding signed_number
unread negative bs r e h digits some is =
    let k = OkIff-at_err r _ _ e (parse_digits own 64 bs r h digits) is in
    let large : digits_value 10 bs < 2 ^ 64 → ⊥ = λ small. k (some, small) in
    let big : 2 ^ 64 ≤ digits_value 10 bs = omega arith in
    let none : in_range negative (digits_value 10 bs) ≡ None = past negative (digits_value 10 bs) big in
    let test : ltb 0 (length bs) ≡ true = grind (arith, nat_tests) in
    rw (digits, test, none) refl
