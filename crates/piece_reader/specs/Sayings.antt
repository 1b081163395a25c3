-- What the tokens of a piece say.
--     Reading                        what a piece says, or why it says nothing
--     statement_in event             the statement that it says, if it says one
--     session_of digits              the session with this number, or its refusal
--     as_plain reading               a statement's reading, as that of a piece which names no session: session 0 says it
--     Says symbols reading           the reading by the grammar
--     found_saying symbols           the reading as it is found
--     IsReadAs, reading_of           both of the tokens with their places
use Rattle.std.specs.Prelude.{◌≡◌, ℕ, if◌then◌else◌, Bool, false, List, [], ◌∷◌, codes, Option, Some, None, Result, Ok, Err}
use Rattle.std.specs.Option.{option_map_or}
use Rattle.beas_core.specs.declared.refusal.Refusal.{Refusal}
use Rattle.beas_core.specs.declared.refusal.Refusal.TheVariants.{BadSession, Syntax}
use Rattle.beas_core.specs.Spelling.{number_within}
use Rattle.sql_tokens.specs.declared.token.Token.{Token}
use Rattle.sql_text.specs.declared.tree.Statement.{Statement}
use Rattle.sql_text.specs.Symbols.{Symbol, word, number, mark, is_word, symbols}
use Rattle.token_reader.specs.Reading.{expect, read_number}
use Rattle.sql_parser.specs.Outcome.{Reading as StatementReading, Parses, found_reading}
use Rattle.piece_reader.specs.declared.event.Event.{Event}
use Rattle.piece_reader.specs.declared.event.Event.TheVariants.{Said, Stepped}

abbrev pub Reading : Type 0
Reading = Result Event Refusal

abbrev pub statement_in : Event → Option Statement
statement_in (Said session statement) = Some statement
statement_in (Stepped session) = None

abbrev pub AT : Symbol
AT = mark (codes "@")

abbrev pub STEP : Symbol
STEP = word (codes "step")

-- ---- sessions

-- a number from 1 to 64, with leading zeros or without; else it is refused as it is written
abbrev pub session_of : List ℕ → Result ℕ Refusal
session_of digits = option_map_or Ok (number_within 1 64 digits) (Err (BadSession digits))

abbrev pub of_session : (ℕ → Event) → Result ℕ Refusal → Reading
of_session event (Ok session) = Ok (event session)
of_session event (Err why) = Err why

-- ---- by the grammar

-- a statement's reading, as that of a piece
abbrev pub as_plain : StatementReading → Reading
as_plain (Ok statement) = Ok (Said 0 statement)
as_plain (Err why) = Err why

-- a statement of the session with this number; why it is no statement comes before what is wrong with the number
abbrev pub said_after : List ℕ → StatementReading → Reading
said_after digits (Ok statement) = of_session (λ session. Said session statement) (session_of digits)
said_after digits (Err why) = Err why

abbrev pub BeginsWithAt : List Symbol → Type 0
BeginsWithAt tokens = (rest : List Symbol) × (tokens ≡ AT ∷ rest)

abbrev pub BeginsWithNumber : List Symbol → Type 0
BeginsWithNumber tokens = (digits : List ℕ) × (rest : List Symbol) × (tokens ≡ number digits ∷ rest)

pub data Says : List Symbol → Reading → Type 0 where
  -- a statement
  plain : {a : List Symbol} (reading : StatementReading) → (BeginsWithAt a → ⊥) → Parses a reading → Says a (as_plain reading)
  -- @ number STEP
  step : {digits : List ℕ} → Says (AT ∷ number digits ∷ STEP ∷ []) (of_session Stepped (session_of digits))
  -- @ number statement
  said : {digits : List ℕ} {a : List Symbol} (reading : StatementReading) → (a ≡ STEP ∷ [] → ⊥) → Parses a reading
      → Says (AT ∷ number digits ∷ a) (said_after digits reading)
  -- no number follows `@`
  unnumbered : {a : List Symbol} → (BeginsWithNumber a → ⊥) → Says (AT ∷ a) (Err Syntax)

-- ---- as it is found

abbrev pub is_step : List Symbol → Bool
is_step [] = false
is_step (symbol ∷ []) = is_word (codes "step") symbol
is_step (symbol ∷ next ∷ rest) = false

abbrev pub after_number : List ℕ → List Symbol → Reading
after_number digits tokens =
    if is_step tokens then of_session Stepped (session_of digits) else said_after digits (found_reading tokens)

abbrev pub after_at : List Symbol → Reading
after_at tokens = option_map_or (λ p. after_number p.0 p.1) (read_number tokens) (Err Syntax)

abbrev pub found_saying : List Symbol → Reading
found_saying tokens = option_map_or after_at (expect AT tokens) (as_plain (found_reading tokens))

-- ---- of the tokens with their places

abbrev pub IsReadAs : List Token → Reading → Type 0
IsReadAs tokens reading = Says (symbols tokens) reading

abbrev pub reading_of : List Token → Reading
reading_of tokens = found_saying (symbols tokens)
