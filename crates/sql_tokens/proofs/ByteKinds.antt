-- What the kinds of bytes say, and a table of them.
use Rattle.std.proofs.Common.{◌≡◌, ◌≢◌, ℕ, zero, suc, ◌+◌, ◌<◌, Bool, true, false, List, [], ◌∷◌, length, get_or, take, refl, sym, ap, subst, ◌∙◌, inl, inr, arith, add-zero}
use Rattle.std.specs.Prelude.{◌==◌, ◌&&◌, Some, eqb, find, nat_le, nat_lt, not}
use Rattle.std.specs.Char.{is_ascii_digit}
use Rattle.std.specs.List.{AllByRecursion, list_any, starts_with}
use Rattle.std.proofs.lemmas.Bool.{and_parts, cases_Bool, eqb-true, false≢true, ltb-true}
use Rattle.beas_core.specs.Spelling.{begins_word, continues_word}
use Rattle.sql_tokens.specs.Cuts.{byte_kind, lone_marks}
use Rattle.sql_tokens.specs.Tokens.{marks}

-- the kinds of so many bytes from one on
abbrev pub kinds_from : ℕ → ℕ → List ℕ
kinds_from byte zero = []
kinds_from byte (suc count) = byte_kind byte ∷ kinds_from (byte + 1) count

kind_from : (byte count i : ℕ) → i < count → get_or (kinds_from byte count) i 0 ≡ byte_kind (byte + i)
kind_from byte zero i l = absurd (omega arith)
kind_from byte (suc count) zero l = ap byte_kind (sym (add-zero byte))
kind_from byte (suc count) (suc i) l =
    let place : byte + 1 + i ≡ byte + suc i = omega arith in
    kind_from (byte + 1) count i (omega arith) ∙ ap byte_kind place

pub kind_at : (byte : ℕ) → byte < 256 → get_or (kinds_from 0 256) byte 0 ≡ byte_kind byte
kind_at byte l =
    let place : 0 + byte ≡ byte = omega arith in
    kind_from 0 256 byte l ∙ ap byte_kind place

-- ---- the kinds, by cases

abbrev pub is_lone : ℕ → Bool
is_lone byte = list_any (λ mark. byte == mark) lone_marks

pub kind-word : (byte : ℕ) → nat_le 2 (byte_kind byte) ≡ continues_word byte
kind-word byte =
    elim (cases_Bool (begins_word byte)) [
      | inl w ↦ rw w refl
      | inr w ↦
          elim (cases_Bool (is_ascii_digit byte)) [
            | inl d ↦ rw w (rw d refl)
            | inr d ↦ rw w (rw d (elim (cases_Bool (is_lone byte)) [ inl m ↦ rw m refl | inr m ↦ rw m refl ]))
          ]
    ]

-- what a byte is by its kind
pub record IsByKind (byte : ℕ) : Type 0 where
  pub letter : byte_kind byte ≡ 3 → begins_word byte ≡ true
  pub digit : byte_kind byte ≡ 2 → is_ascii_digit byte ≡ true
  pub lone : byte_kind byte ≡ 1 → (begins_word byte ≡ false) × (is_ascii_digit byte ≡ false) × (is_lone byte ≡ true)
  pub other : byte_kind byte ≡ 0 → (begins_word byte ≡ false) × (is_ascii_digit byte ≡ false) × (is_lone byte ≡ false)
  pub few : byte_kind byte < 4

letter_is : (byte : ℕ) → begins_word byte ≡ true → IsByKind byte
letter_is byte w =
    let k : byte_kind byte ≡ 3 = rw w refl in
    record {
      letter = λ _. w;
      digit = λ e. absurd (omega (arith, k, e));
      lone = λ e. absurd (omega (arith, k, e));
      other = λ e. absurd (omega (arith, k, e));
      few = omega (arith, k);
    }

digit_is : (byte : ℕ) → begins_word byte ≡ false → is_ascii_digit byte ≡ true → IsByKind byte
digit_is byte w d =
    let k : byte_kind byte ≡ 2 = rw w (rw d refl) in
    record {
      letter = λ e. absurd (omega (arith, k, e));
      digit = λ _. d;
      lone = λ e. absurd (omega (arith, k, e));
      other = λ e. absurd (omega (arith, k, e));
      few = omega (arith, k);
    }

lone_is : (byte : ℕ) → begins_word byte ≡ false → is_ascii_digit byte ≡ false → is_lone byte ≡ true → IsByKind byte
lone_is byte w d m =
    let k : byte_kind byte ≡ 1 = rw w (rw d (rw m refl)) in
    record {
      letter = λ e. absurd (omega (arith, k, e));
      digit = λ e. absurd (omega (arith, k, e));
      lone = λ _. (w, d, m);
      other = λ e. absurd (omega (arith, k, e));
      few = omega (arith, k);
    }

other_is : (byte : ℕ) → begins_word byte ≡ false → is_ascii_digit byte ≡ false → is_lone byte ≡ false → IsByKind byte
other_is byte w d m =
    let k : byte_kind byte ≡ 0 = rw w (rw d (rw m refl)) in
    record {
      letter = λ e. absurd (omega (arith, k, e));
      digit = λ e. absurd (omega (arith, k, e));
      lone = λ e. absurd (omega (arith, k, e));
      other = λ _. (w, d, m);
      few = omega (arith, k);
    }

pub by_kind : (byte : ℕ) → IsByKind byte
by_kind byte =
    elim (cases_Bool (begins_word byte)) [
      | inl w ↦ letter_is byte w
      | inr w ↦
          elim (cases_Bool (is_ascii_digit byte)) [
            | inl d ↦ digit_is byte w d
            | inr d ↦ elim (cases_Bool (is_lone byte)) [ inl m ↦ lone_is byte w d m | inr m ↦ other_is byte w d m ]
          ]
    ]

-- ---- a mark of one byte alone is found

holds_of : (P : ℕ → Type 0) (byte : ℕ) (bytes : List ℕ) → AllByRecursion P bytes → list_any (λ b. byte == b) bytes ≡ true → P byte
holds_of P byte [] all e = absurd (false≢true e)
holds_of P byte (b ∷ bytes) all e =
    elim (cases_Bool (byte == b)) [
      | inl same ↦ subst P (sym (eqb-true byte b same)) all.0
      | inr other ↦ holds_of P byte bytes all.1 (rw other at e)
    ]

abbrev IsFound : List ℕ → ℕ → Type 0
IsFound rest mark = find (starts_with eqb (mark ∷ rest)) marks ≡ Some (mark ∷ [])

are_found : (rest : List ℕ) → AllByRecursion (IsFound rest) lone_marks
are_found rest = (refl, (refl, (refl, (refl, (refl, (refl, (refl, (refl, (refl, (refl, tt))))))))))

pub lone-found :
    (bytes : List ℕ) → 0 < length bytes → is_lone (get_or bytes 0 0) ≡ true → find (starts_with eqb bytes) marks ≡ Some (take 1 bytes)
lone-found [] l e = absurd (omega arith)
lone-found (b ∷ rest) l e = holds_of (IsFound rest) b lone_marks (are_found rest) e

-- and it is ASCII and no quote
abbrev is_low : ℕ → Bool
is_low byte = nat_lt byte 128 && not (byte == 39)

are_low : AllByRecursion (λ mark. is_low mark ≡ true) lone_marks
are_low = (refl, (refl, (refl, (refl, (refl, (refl, (refl, (refl, (refl, (refl, tt))))))))))

pub lone-low : (byte : ℕ) → is_lone byte ≡ true → (byte < 128) × (byte ≢ 39)
lone-low byte e =
    let low = and_parts (nat_lt byte 128) (not (byte == 39)) (holds_of (λ mark. is_low mark ≡ true) byte lone_marks are_low e) in
    (ltb-true byte 128 low.0, λ same. false≢true (let no : not (byte == 39) ≡ false = rw same refl in sym no ∙ low.1))
