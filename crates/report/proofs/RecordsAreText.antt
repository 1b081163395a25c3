-- What csv's writer writes of a field that is text is text.
use Rattle.std.proofs.Common.{◌≡◌, ◌≢◌, ◌++◌, ℕ, suc, ◌<◌, Bool, true, false, List, [], ◌∷◌, length, get_or, IsUtf8, inl, inr, refl, sym, subst, arith, append-nil}
use Rattle.std.specs.List.{list_any}
use Rattle.std.specs.Prelude.{if◌then◌else◌, ◌==◌}
use Rattle.std.proofs.lemmas.Bool.{and_parts, cases_eq, ne_eqb}
use Rattle.std.proofs.lemmas.Str.{IsUtf8-append, IsUtf8-nil, IsUtf8-encode, encode_ascii, inside_one}
use lib.Utf8.{scalar, scalars, encode, encodes, low_scalar}
use Rattle.csv.specs.Writing.{escaped, quoted, needs_quotes, field_text, next_sep, tail_text}
use Rattle.csv.proofs.WriteFacts.{escaped-append, escaped-none}
use Rattle.report.specs.Records.{any_width}

ascii_then : (x : ℕ) (xs : List ℕ) → x < 128 → IsUtf8 xs → IsUtf8 (x ∷ xs)
ascii_then x xs small u = IsUtf8-append (x ∷ []) xs (subst IsUtf8 (encode_ascii x small) (IsUtf8-encode x (low_scalar x (omega arith)))) u

two_quotes : IsUtf8 (34 ∷ 34 ∷ [])
two_quotes = ascii_then 34 (34 ∷ []) (omega arith) (ascii_then 34 [] (omega arith) IsUtf8-nil)

no_quote : (xs : List ℕ) → ((k : ℕ) → k < length xs → get_or xs k 0 ≢ 34) → list_any (λ b. b == 34) xs ≡ false
no_quote [] h = refl
no_quote (x ∷ xs) h = rw (ne_eqb x 34 (h 0 (omega arith))) (no_quote xs (λ k below. h (suc k) (omega arith)))

-- a quote is doubled, and each other character stands as it is
one_char : (c : ℕ) → scalar c ≡ true → IsUtf8 (escaped any_width (encode c))
unfolding escaped
one_char c ok = elim (cases_eq c 34) [
  | inl same ↦ rw (same, encode_ascii 34 (omega arith)) two_quotes
  | inr other ↦
      let free = no_quote (encode c) (λ k below same. other (rw same at (inside_one c [] (encode c) k (sym (append-nil _)) below (omega arith)))) in
      subst IsUtf8 (sym (escaped-none any_width (encode c) free)) (IsUtf8-encode c ok)
]

all_chars : (cs : List ℕ) → scalars cs ≡ true → IsUtf8 (escaped any_width (encodes cs))
unfolding escaped
all_chars [] e = IsUtf8-nil
all_chars (c ∷ cs) e =
    let p = and_parts _ _ e in
    rw (escaped-append any_width (encode c) (encodes cs)) (IsUtf8-append _ _ (one_char c p.0) (all_chars cs p.1))

IsUtf8-escaped : (field : List ℕ) → IsUtf8 field → IsUtf8 (escaped any_width field)
IsUtf8-escaped field u = subst (λ (xs : List ℕ). IsUtf8 (escaped any_width xs)) u.1.1 (all_chars u.0 u.1.0)

IsUtf8-quoted : (field : List ℕ) → IsUtf8 field → IsUtf8 (quoted any_width field)
IsUtf8-quoted field u =
    ascii_then 34 _ (omega arith) (IsUtf8-append _ _ (IsUtf8-escaped field u) (ascii_then 34 [] (omega arith) IsUtf8-nil))

either_text : (b : Bool) (xs ys : List ℕ) → IsUtf8 xs → IsUtf8 ys → IsUtf8 (if b then xs else ys)
either_text true xs ys u v = u
either_text false xs ys u v = v

IsUtf8-field_text : (field : List ℕ) → IsUtf8 field → IsUtf8 (field_text any_width field)
IsUtf8-field_text field u = either_text (needs_quotes any_width field) (quoted any_width field) field (IsUtf8-quoted field u) u

-- a field with the comma before it, if it has one
pub IsUtf8-next : (i : ℕ) (field : List ℕ) → IsUtf8 field → IsUtf8 (next_sep any_width i ++ field_text any_width field)
IsUtf8-next i field u =
    IsUtf8-append _ _ (either_text (i == 0) [] (44 ∷ []) IsUtf8-nil (ascii_then 44 [] (omega arith) IsUtf8-nil)) (IsUtf8-field_text field u)

pub IsUtf8-tail : (wrote : Bool) (count : ℕ) → IsUtf8 (tail_text any_width wrote count)
IsUtf8-tail wrote count =
    IsUtf8-append _ _ (either_text _ (34 ∷ 34 ∷ []) [] two_quotes IsUtf8-nil) (ascii_then 10 [] (omega arith) IsUtf8-nil)
