-- The readings of a script's pieces.
use Rattle.std.proofs.Common.{◌≡◌, ◌≤◌, List, [], ◌∷◌, ℕ, ap, length, map}
use Rattle.std.specs.List.{AllZip}
use Rattle.sql_tokens.specs.declared.token.Token.{Token}
use Rattle.sql_tokens.specs.Pieces.{statements_of, tokens_past}
use Rattle.sql_tokens.proofs.Steps.{tokens_past-end}
use Rattle.sql_text.specs.Symbols.{symbols}
use Rattle.piece_reader.specs.Sayings.{IsReadAs, reading_of}
use Rattle.piece_reader.proofs.SayingFacts.{found-says}
use Rattle.beas_run.specs.Readings.{Readings, pieces, readings_of, readings_past}

each_read : (parts : List (List Token)) → AllZip IsReadAs parts (map reading_of parts)
each_read [] = tt
each_read (tokens ∷ parts) = (found-says (symbols tokens), each_read parts)

-- what is found is what each piece is read as
pub found : (script : List ℕ) → Readings script (readings_of script)
found script = each_read (pieces script)

-- the readings from a place on, where a piece without a token or with some stands there
pub past_none : (script : List ℕ) (at next : ℕ) → statements_of (tokens_past at script) ≡ statements_of (tokens_past next script)
    → readings_past at script ≡ readings_past next script
past_none script at next e = ap (map reading_of) e

pub past_one : (script : List ℕ) (at next : ℕ) (tokens : List Token)
    → statements_of (tokens_past at script) ≡ tokens ∷ statements_of (tokens_past next script)
    → readings_past at script ≡ reading_of tokens ∷ readings_past next script
past_one script at next tokens e = ap (map reading_of) e

pub past_end : (script : List ℕ) (at : ℕ) → length script ≤ at → readings_past at script ≡ []
past_end script at l = ap (λ (tokens : List Token). map reading_of (statements_of tokens)) (tokens_past-end script at l)
