-- Which session a number is, where its value from 1 to 4294967295 is known, or that it has none.
use Rattle.std.proofs.Common.{◌≡◌, ◌<◌, ◌≤◌, ℕ, Bool, true, false, nat_le, length, List, Option, Some, None, Result, Ok, Err, arith, refl, ap}
use Rattle.std.specs.Prelude.{if◌then◌else◌, ◌&&◌}
use Rattle.std.specs.Char.{is_ascii_digit}
use Rattle.std.specs.List.{list_all}
use Rattle.std.specs.Option.{option_map_or}
use Rattle.std.specs.Str.Parse.{digits_value}
use Rattle.std.proofs.lemmas.Bool.{leb-false, le-leb, lt-leb}
use Rattle.beas_core.specs.declared.refusal.Refusal.{Refusal}
use Rattle.beas_core.specs.declared.refusal.Refusal.TheVariants.{BadSession}
use Rattle.beas_core.specs.Spelling.{limit_in}
use Rattle.piece_reader.specs.Sayings.{session_of}

abbrev some_value : ℕ → Option ℕ
some_value n = Some n

-- a value up to a greatest one, where all else holds
abbrev up_to : ℕ → Bool → ℕ → Option ℕ
up_to most else_holds value = if else_holds && nat_le value most then some_value value else None

abbrev session_or : Refusal → Option ℕ → Result ℕ Refusal
session_or why found = option_map_or Ok found (Err why)

-- all that a number is asked but that it isn't too great
abbrev is_some_number : List ℕ → Bool
is_some_number digits = nat_le 1 (length digits) && list_all is_ascii_digit digits && nat_le 1 (digits_value 10 digits)

module _ (why : Refusal) (v n : ℕ) where
  few : (b : Bool) → up_to 4294967295 b v ≡ Some n → n ≤ 64 → session_or why (up_to 64 b v) ≡ Ok n
  few true e le = by (nat_le v 4294967295) refl e
    where
      by : (t : Bool) → nat_le v 4294967295 ≡ t → (if t then some_value v else None) ≡ Some n → session_or why (up_to 64 true v) ≡ Ok n
      by true t e = let same : v ≡ n = cc in rw (le-leb v 64 (omega (arith, same, le))) (ap (λ (m : ℕ). let r : Result ℕ Refusal = Ok m in r) same)
      by false t e = absurd cc
  few false e le = absurd cc

  many : (b : Bool) → up_to 4294967295 b v ≡ Some n → 64 < n → session_or why (up_to 64 b v) ≡ Err why
  many true e lt = by (nat_le v 4294967295) refl e
    where
      by : (t : Bool) → nat_le v 4294967295 ≡ t → (if t then some_value v else None) ≡ Some n → session_or why (up_to 64 true v) ≡ Err why
      by true t e = let same : v ≡ n = cc in rw (lt-leb v 64 (omega (arith, same, lt))) refl
      by false t e = absurd cc
  many false e lt = refl

none : (why : Refusal) (v : ℕ) (b : Bool) → up_to 4294967295 b v ≡ None → session_or why (up_to 64 b v) ≡ Err why
none why v true e = by (nat_le v 4294967295) refl e
  where
    by : (t : Bool) → nat_le v 4294967295 ≡ t → (if t then some_value v else None) ≡ None → session_or why (up_to 64 true v) ≡ Err why
    by true t e = absurd cc
    by false t e = rw (lt-leb v 64 (let over = leb-false v 4294967295 t in omega (arith, over))) refl
none why v false e = refl

pub known_session : (digits : List ℕ) (n : ℕ) → limit_in digits ≡ Some n → n ≤ 64 → session_of digits ≡ Ok n
known_session digits n e le = few (BadSession digits) (digits_value 10 digits) n (is_some_number digits) e le

pub past_sessions : (digits : List ℕ) (n : ℕ) → limit_in digits ≡ Some n → 64 < n → session_of digits ≡ Err (BadSession digits)
past_sessions digits n e lt = many (BadSession digits) (digits_value 10 digits) n (is_some_number digits) e lt

pub no_session : (digits : List ℕ) → limit_in digits ≡ None → session_of digits ≡ Err (BadSession digits)
no_session digits e = none (BadSession digits) (digits_value 10 digits) (is_some_number digits) e
