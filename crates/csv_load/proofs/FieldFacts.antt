-- Fields: the field at a place, and which integers `parse` reads.
use Rattle.std.proofs.Common.{◌≡◌, ◌≤◌, ◌<◌, ◌^◌, ℕ, zero, suc, ℤ, pos, neg_ℤ, Bool, true, false, cond, ◌&&◌, ◌==◌, List, [], ◌∷◌, length, drop, get_or, nat_le, Option, Some, None, Result, Ok, Err, refl, ap, sym, ◌∙◌, arith, slice_get}
use Rattle.std.specs.Result.{result_ok, OkIff}
use Rattle.std.specs.Str.{IsAscii, IsUtf8, all_ascii_digits, is_utf8}
use Rattle.std.specs.Str.Parse.{ParsesSigned, digits_value, starts_with_minus, without_leading_plus, without_leading_sign, signed_digits_value}
use Rattle.std.proofs.lemmas.Bool.{leb-true, le-leb, eqb-true, eqb-false}
use Rattle.std.proofs.lemmas.Fmt.{IsAscii-from_digits}
use Rattle.std.proofs.lemmas.Str.{IsUtf8-from_ascii, IsUtf8-from_is_utf8, is_utf8-from_IsUtf8}
use Rattle.std.proofs.lemmas.Str.Ascii.{IsAscii-nil, IsAscii-cons}
use Rattle.std.proofs.lemmas.Str.Parse.{IsNumeralModel, tells_all_ascii_digits, numerals_by_value, parse_signed_minus, parse_signed_plus, parse_signed_plain, without_leading_plus_none, without_leading_plus_plus}
use mir.Syntax.{w64}
use Rattle.csv.specs.Records.{field_at}
use Rattle.csv_load.specs.Fields.{integer_in, is_integer, greatest_digits, text_in}

pub field_at-is : (xs : List (List ℕ)) (i : ℕ) → field_at xs i ≡ slice_get xs i
unfolding field_at
field_at-is [] i = refl
field_at-is (x ∷ xs) zero = refl
field_at-is (x ∷ xs) (suc i) = field_at-is xs i

decimal : IsNumeralModel (λ ds. all_ascii_digits ds ≡ true) (digits_value 10)
decimal = numerals_by_value (λ ds. all_ascii_digits ds ≡ true) tells_all_ascii_digits

-- digits alone whose value is within the limit
abbrev fits : List ℕ → ℕ → Bool
fits ds most = all_ascii_digits ds && nat_le 1 (length ds) && nat_le (digits_value 10 ds) most

and_true : (a b c : Bool) → (a && b && c) ≡ true → (a ≡ true) × (b ≡ true) × (c ≡ true)
and_true true true true h = (refl, refl, refl)
and_true true true false h = cc
and_true true false c h = cc
and_true false b c h = cc

parsed : {E : Type 0} (ds : List ℕ) (most : ℕ) (value : ℤ) (r : Result ℤ E)
    → OkIff r ((all_ascii_digits ds ≡ true) × (0 < length ds) × (digits_value 10 ds ≤ most)) value → result_ok r ≡ cond (fits ds most) (Some value) None
parsed {E} ds most value r h = by r h (fits ds most) refl
  where
    by : (r : Result ℤ E) → OkIff r ((all_ascii_digits ds ≡ true) × (0 < length ds) × (digits_value 10 ds ≤ most)) value
        → (b : Bool) → fits ds most ≡ b → result_ok r ≡ cond b (Some value) None
    by (Ok x) h true e = ap Some h.1
    by (Ok x) h false e =
        let a = h.0.0 in
        let b = le-leb 1 (length ds) (omega (arith, h.0.1)) in
        let c = le-leb (digits_value 10 ds) most h.0.2 in
        cc
    by (Err why) h true e =
        let t = and_true (all_ascii_digits ds) (nat_le 1 (length ds)) (nat_le (digits_value 10 ds) most) e in
        let some = leb-true 1 (length ds) t.1 in
        absurd (h (t.0, omega arith, leb-true (digits_value 10 ds) most t.2))
    by (Err why) h false e = refl

below : {E : Type 0} (A B : Type 0) (n : ℕ) (value : ℤ) (r : Result ℤ E) → OkIff r (A × B × (n < 2 ^ 63)) value
    → OkIff r (A × B × (n ≤ 9223372036854775807)) value
below A B n value (Ok x) h = ((h.0.0, h.0.1, omega (arith, h.0.2)), h.1)
below A B n value (Err why) h = λ q. h (q.0, q.1, omega (arith, q.2))

-- what is read after the sign, where it is a minus and where it isn't
abbrev read_after : Bool → List ℕ → Option ℤ
read_after minus field =
    let ds : List ℕ = cond minus (drop 1 field) (without_leading_plus field) in
    cond (fits ds (cond minus 9223372036854775808 9223372036854775807)) (Some (cond minus (neg_ℤ (pos (digits_value 10 ds))) (pos (digits_value 10 ds)))) None

abbrev read_digits : List ℕ → Option ℤ
read_digits ds = cond (fits ds 9223372036854775807) (Some (pos (digits_value 10 ds))) None

pub integer_parsed : {E : Type 0} (field : List ℕ) (r : Result ℤ E) → ParsesSigned w64 10 field r → result_ok r ≡ integer_in field
integer_parsed {E} field r h = by (starts_with_minus field) refl ((get_or field 0 0) == 43) refl
  where
    by : (b : Bool) → starts_with_minus field ≡ b → (p : Bool) → ((get_or field 0 0) == 43) ≡ p → result_ok r ≡ integer_in field
    by true e p d =
        parsed (drop 1 field) 9223372036854775808 (neg_ℤ (pos (digits_value 10 (drop 1 field)))) r
        (parse_signed_minus decimal w64 field r h (eqb-true (get_or field 0 0) 45 e))
        ∙ ap (λ b. read_after b field) (sym e)
    by false e true d =
        let first = eqb-true (get_or field 0 0) 43 d in
        parsed (drop 1 field) 9223372036854775807 (pos (digits_value 10 (drop 1 field))) r
        (below _ _ (digits_value 10 (drop 1 field)) _ r (parse_signed_plus decimal w64 field r h first))
        ∙ ap read_digits (sym (without_leading_plus_plus field first))
        ∙ ap (λ b. read_after b field) (sym e)
    by false e false d =
        let no_plus = eqb-false (get_or field 0 0) 43 d in
        parsed field 9223372036854775807 (pos (digits_value 10 field)) r
        (below _ _ (digits_value 10 field) _ r (parse_signed_plain decimal w64 field r h no_plus (eqb-false (get_or field 0 0) 45 e)))
        ∙ ap read_digits (sym (without_leading_plus_none field no_plus))
        ∙ ap (λ b. read_after b field) (sym e)

-- a sign and digits are text
ascii_from_digits : (ds : List ℕ) → all_ascii_digits ds ≡ true → IsAscii ds
ascii_from_digits ds h = IsAscii-from_digits ds (decimal.to ds h)

ascii_after : (field : List ℕ) → get_or field 0 0 < 128 → IsAscii (drop 1 field) → IsAscii field
ascii_after [] l h = IsAscii-nil
ascii_after (c ∷ cs) l h = IsAscii-cons c cs l h

ascii_from_integer : (field : List ℕ) → all_ascii_digits (without_leading_sign field) ≡ true → IsAscii field
ascii_from_integer field h = by (starts_with_minus field) refl ((get_or field 0 0) == 43) refl
  where
    by : (b : Bool) → starts_with_minus field ≡ b → (p : Bool) → ((get_or field 0 0) == 43) ≡ p → IsAscii field
    by true e p d =
        let first = eqb-true (get_or field 0 0) 45 e in
        ascii_after field (omega (arith, first)) (ascii_from_digits (drop 1 field)
        (ap (λ b. all_ascii_digits (cond b (drop 1 field) (without_leading_plus field))) (sym e) ∙ h))
    by false e true d =
        let first = eqb-true (get_or field 0 0) 43 d in
        ascii_after field (omega (arith, first))
        (ascii_from_digits (drop 1 field)
        (ap all_ascii_digits (sym (without_leading_plus_plus field first))
        ∙ ap (λ b. all_ascii_digits (cond b (drop 1 field) (without_leading_plus field))) (sym e) ∙ h))
    by false e false d =
        ascii_from_digits field
        (ap all_ascii_digits (sym (without_leading_plus_none field (eqb-false (get_or field 0 0) 43 d)))
        ∙ ap (λ b. all_ascii_digits (cond b (drop 1 field) (without_leading_plus field))) (sym e) ∙ h)

pub no_integer : (field : List ℕ) → is_utf8 field ≡ false → integer_in field ≡ None
no_integer field n = by (is_integer field) refl
  where
    by : (b : Bool) → is_integer field ≡ b → cond b (Some (signed_digits_value 10 field)) None ≡ None
    by true e =
        let t = and_true (all_ascii_digits (without_leading_sign field)) (nat_le 1 (length (without_leading_sign field)))
        (nat_le (digits_value 10 (without_leading_sign field)) (greatest_digits field)) e in
        let u = is_utf8-from_IsUtf8 field (IsUtf8-from_ascii field (ascii_from_integer field t.0)) in
        cc
    by false e = refl

-- a text, where the bytes are one
text_told : (bytes : List ℕ) → ¬ (IsUtf8 bytes) → is_utf8 bytes ≡ false
text_told bytes n = by (is_utf8 bytes) refl
  where
    by : (b : Bool) → is_utf8 bytes ≡ b → is_utf8 bytes ≡ false
    by true e = absurd (n (IsUtf8-from_is_utf8 bytes e))
    by false e = e

pub text_is : (bytes text : List ℕ) → text ≡ bytes → IsUtf8 bytes → Some text ≡ text_in bytes
text_is bytes text e u = ap Some e ∙ ap (λ b. cond b (Some bytes) None) (sym (is_utf8-from_IsUtf8 bytes u))

pub text_lacks : (bytes : List ℕ) → ¬ (IsUtf8 bytes) → None ≡ text_in bytes
text_lacks bytes n = ap (λ b. cond b (Some bytes) None) (sym (text_told bytes n))

pub no_text : (bytes : List ℕ) → None ≡ text_in bytes → is_utf8 bytes ≡ false
no_text bytes e = by (is_utf8 bytes) refl
  where
    by : (b : Bool) → is_utf8 bytes ≡ b → is_utf8 bytes ≡ false
    by true t = let s = ap (λ b. cond b (Some bytes) None) t in cc
    by false t = t
