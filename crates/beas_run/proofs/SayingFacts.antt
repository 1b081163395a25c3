-- What a piece says is as a desk wants it: its session has a number of at most 64, and its statement is well formed.
use Rattle.std.proofs.Common.{◌≡◌, ◌<◌, ◌≤◌, ◌-◌, ◌^◌, ◌&&◌, ℕ, Bool, true, false, List, None, Some, Result, Ok, Err, arith, refl, length}
use Rattle.std.specs.Prelude.{if◌then◌else◌, nat_le}
use Rattle.std.specs.Option.{option_map_or}
use Rattle.std.specs.Char.{is_ascii_digit}
use Rattle.std.specs.List.{list_all}
use Rattle.std.specs.Str.Parse.{digits_value}
use Rattle.std.proofs.lemmas.Bool.{leb-true}
use Rattle.beas_core.specs.declared.refusal.Refusal.{Refusal}
use Rattle.beas_core.specs.declared.refusal.Refusal.TheVariants.{BadSession}
use Rattle.sql_tokens.specs.declared.token.Token.{Token}
use Rattle.sql_text.specs.Symbols.{Symbol, symbols}
use Rattle.desk_model.proofs.WellFormedFacts.{said_well}
use Rattle.piece_reader.specs.declared.event.Event.{Event}
use Rattle.piece_reader.specs.declared.event.Event.TheVariants.{Said, Stepped}
use Rattle.piece_reader.specs.Sayings.{IsReadAs, Reading, Says, of_session, plain, said, session_of, step, unnumbered}
use Rattle.version_store.specs.Desks.{EventIsWellFormed, session_in}

and_right : (a b : Bool) → (a && b) ≡ true → b ≡ true
and_right true b e = e
and_right false b e = cc

most : (digits : List ℕ) (session : ℕ) → session_of digits ≡ Ok session → session ≤ 64
most digits session e = by (nat_le 1 (length digits) && list_all is_ascii_digit digits && nat_le 1 value && nat_le value 64) refl e
  where
    value : ℕ
    value = digits_value 10 digits

    by : (b : Bool) → (nat_le 1 (length digits) && list_all is_ascii_digit digits && nat_le 1 value && nat_le value 64) ≡ b
        → option_map_or Ok (if b then Some value else None) (Err (BadSession digits)) ≡ Ok session → session ≤ 64
    by false fits is = let other : Err (BadSession digits) ≡ Ok session = is in cc
    by true fits is =
        let same : value ≡ session = cc in
        rw same at (leb-true value 64 (and_right _ (nat_le value 64) fits))

abbrev SessionFits : Reading → Type 0
SessionFits (Ok (Said session statement)) = session ≤ 64
SessionFits (Ok (Stepped session)) = session ≤ 64
SessionFits (Err why) = Unit {0}

fits_by : (saying : ℕ → Event) → ((session : ℕ) → session ≤ 64 → SessionFits (Ok (saying session))) → (digits : List ℕ)
    → SessionFits (of_session saying (session_of digits))
fits_by saying each digits = by (session_of digits) refl
  where
    by : (r : Result ℕ Refusal) → session_of digits ≡ r → SessionFits (of_session saying r)
    by (Ok session) e = each session (most digits session e)
    by (Err why) e = tt

session_fits : (a : List Symbol) (reading : Reading) → Says a reading → SessionFits reading
session_fits a reading (plain (Ok statement) none p) = omega arith
session_fits a reading (plain (Err why) none p) = tt
session_fits a reading (step {digits = digits}) = fits_by Stepped (λ session le. le) digits
session_fits a reading (said {digits = digits} (Ok statement) none p) = fits_by (λ k. Said k statement) (λ session le. le) digits
session_fits a reading (said {digits = digits} (Err why) none p) = tt
session_fits a reading (unnumbered none) = tt

pub session_of_piece : (tokens : List Token) (event : Event) → IsReadAs tokens (Ok event) → session_in event ≤ 64
session_of_piece tokens (Said session statement) says = session_fits (symbols tokens) (Ok (Said session statement)) says
session_of_piece tokens (Stepped session) says = session_fits (symbols tokens) (Ok (Stepped session)) says

pub event_fits : (tokens : List Token) (event : Event) → IsReadAs tokens (Ok event) → length tokens < 2 ^ 32 - 1 → EventIsWellFormed event
event_fits tokens (Said session statement) says few = said_well tokens (Said session statement) statement says refl few
event_fits tokens (Stepped session) says few = tt
