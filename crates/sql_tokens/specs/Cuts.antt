-- What stands at a place of a script, as the lexer's parts see it.
--     BeginsToken source at        a token begins at the place
--     IsAtToken source at          so it is, or the place is the end
--     StandsAt source at token     the bytes from `at` on begin with this token
--     byte_kind byte               3 for a byte that begins a word, 2 for a digit, 1 for a mark with which no longer one begins, else 0
use Rattle.std.specs.Prelude.{◌≡◌, ◌<◌, ◌≤◌, ◌-◌, ◌==◌, ℕ, if◌then◌else◌, eqb, false, List, length, drop, take, slice_index, codes, IsCharBoundary, Option, Some, None}
use Rattle.std.specs.Char.{is_ascii_digit, is_ascii_whitespace}
use Rattle.std.specs.List.{list_any, starts_with}
use Rattle.sql_tokens.specs.declared.token.Token.{Token}
use Rattle.beas_core.specs.Spelling.{begins_word}
use Rattle.sql_tokens.specs.Tokens.{lead}
use Rattle.sql_tokens.specs.Tokens.Lead.{Lexeme}

-- a token begins at the place, since neither white space nor a comment does
pub record BeginsToken (source : List ℕ) (at : ℕ) : Type 0 where
  pub within : at < length source
  pub cut : IsCharBoundary source at
  pub ink : is_ascii_whitespace (slice_index source at) ≡ false
  pub no_comment : starts_with eqb (drop at source) (codes "--") ≡ false

pub record IsAtToken (source : List ℕ) (at : ℕ) : Type 0 where
  pub within : at ≤ length source
  pub cut : IsCharBoundary source at
  pub begins : at < length source → BeginsToken source at

pub record StandsAt (source : List ℕ) (at : ℕ) (token : Token) : Type 0 where
  pub is : lead (drop at source) ≡ Lexeme token.kind (token.to - at) token.text
  pub from : token.from ≡ at
  pub some : at < token.to
  pub within : token.to ≤ length source
  pub cut : IsCharBoundary source token.to

-- the mark of so many bytes, none at 0
abbrev pub mark_of : ℕ → List ℕ → Option (List ℕ)
mark_of len bytes = if len == 0 then None else Some (take len bytes)

abbrev pub lone_marks : List ℕ
lone_marks = codes "(),;.*+-=@"

abbrev pub byte_kind : ℕ → ℕ
byte_kind byte =
    if begins_word byte then 3
    else (if is_ascii_digit byte then 2
    else (if list_any (λ mark. byte == mark) lone_marks then 1 else 0))
