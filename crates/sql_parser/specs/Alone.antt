-- What is read, alone in a list.
use Rattle.std.specs.Prelude.{List, [], ◌∷◌, Option, Some}
use Rattle.sql_text.specs.Symbols.{Symbol}
use Rattle.token_reader.specs.Reading.{◌>>=◌}

abbrev pub alone : {X : Type 0} → Option (X × List Symbol) → Option (List X × List Symbol)
alone read = read >>= λ p. Some (p.0 ∷ [], p.1)
