-- How the pieces of a script are read.
--     pieces script                 the pieces of the script that hold a token
--     Readings script readings      each piece of the script has its reading
--     readings_of script            the readings as they are found
--     readings_past at script       those of the pieces from a place on
use Rattle.std.specs.Prelude.{ℕ, List, map}
use Rattle.std.specs.List.{AllZip}
use Rattle.sql_tokens.specs.declared.token.Token.{Token}
use Rattle.sql_tokens.specs.Tokens.{tokens_of}
use Rattle.sql_tokens.specs.Pieces.{statements_of, tokens_past}
use Rattle.piece_reader.specs.Sayings.{Reading, IsReadAs, reading_of}

abbrev pub pieces : List ℕ → List (List Token)
pieces script = statements_of (tokens_of script)

abbrev pub Readings : List ℕ → List Reading → Type 0
Readings script readings = AllZip IsReadAs (pieces script) readings

abbrev pub readings_of : List ℕ → List Reading
readings_of script = map reading_of (pieces script)

abbrev pub readings_past : ℕ → List ℕ → List Reading
readings_past at script = map reading_of (statements_of (tokens_past at script))
