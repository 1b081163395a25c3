use Rattle.std.proofs.Common.{◌≡◌, ◌+◌, ◌*◌, ℕ, ◌<◌, ◌≤◌, get_or, take, nat_le, if◌then◌else◌, inl, inr, arith, sym, ◌∙◌, ap, ◌&&◌}
use Rattle.std.specs.Char.{is_ascii_digit, digit_value}
use Rattle.std.specs.Str.Parse.{digits_value}
use Rattle.std.proofs.lemmas.Int.Digits.{digits_value_more}
use Rattle.std.proofs.lemmas.List.Folds.{list_all_more}
use Rattle.std.proofs.lemmas.Bool.{cases_lt}
use Rattle.beas_core.proofs.spelling.limit_of.Goals as goal

abbrev next : ℕ → ℕ → ℕ
next value digit = if nat_le value 4294967295 then value * 10 + digit else value

small : (value digit r : ℕ) → value ≤ 4294967295 → r ≡ next value digit → r ≡ value * 10 + digit
small value digit r h e = grind arith

large : (value digit r : ℕ) → 4294967295 < value → r ≡ next value digit → r ≡ value
large value digit r h e = grind arith

-- the value with one more digit, against the number that the digits spell
exact : (value digit known r : ℕ) → r ≡ next value digit → (value ≤ 4294967295 → value ≡ known) → r ≤ 4294967295 → r ≡ known * 10 + digit
exact value digit known r e small_is h = elim (cases_lt 4294967295 value) [
  | inl over ↦ absurd (let f = large value digit r over e in omega arith)
  | inr within ↦ let f = small value digit r within e in let g = small_is within in omega arith
]

more : (value digit known r : ℕ) → r ≡ next value digit → (value ≤ 4294967295 → value ≡ known) → (4294967295 < value → 4294967295 < known) → 4294967295 < r
    → 4294967295 < known * 10 + digit
more value digit known r e small_is large_is h = elim (cases_lt 4294967295 value) [
  | inl over ↦ let f = large_is over in omega arith
  | inr within ↦ let f = small value digit r within e in let g = small_is within in omega arith
]

pub loop-byte-preserved : goal.loop-byte-preserved
loop-byte-preserved c =
    let bytes = c.as_bytes-bytes.result.now in
    let i = c.loop-byte.byte-index in
    let known = digits_value 10 (take i bytes) in
    let digit = digit_value (get_or bytes i 0) in
    let step = digits_value_more 10 bytes i c.loop-byte-test.true in
    record {
      digits = list_all_more is_ascii_digit bytes i 0 c.loop-byte-test.true ∙ ap (λ b. b && is_ascii_digit (get_or bytes i 0)) c.loop-byte.invariant.digits
          ∙ sym c.is_ascii_digit.ensures.value ∙ c.if-not-is_ascii_digit.false;
      small = c.push_digit-value.ensures.small;
      exact = λ h. exact c.loop-byte.value digit known c.push_digit-value.result c.push_digit-value.ensures.value c.loop-byte.invariant.exact h ∙ sym step;
      large = λ h. let m = more c.loop-byte.value digit known c.push_digit-value.result c.push_digit-value.ensures.value c.loop-byte.invariant.exact
          c.loop-byte.invariant.large h in omega arith;
    }
