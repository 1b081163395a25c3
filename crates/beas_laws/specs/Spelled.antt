-- Statements that a text can have.
use Rattle.std.specs.Prelude.{ℕ, List, All, Contains}
use Rattle.sql_tokens.specs.declared.token.Token.{Token}
use Rattle.sql_tokens.specs.Tokens.{tokens_of}
use Rattle.sql_text.specs.declared.tree.Statement.{Statement}
use Rattle.sql_text.specs.Grammar.{Spells}
use Rattle.sql_text.specs.Symbols.{symbols}

-- a token of some text
abbrev pub IsToken : Token → Type 0
IsToken token = (source : List ℕ) × Contains (tokens_of source) token

-- some tokens spell the statement
abbrev pub IsSpelledByTokens : Statement → Type 0
IsSpelledByTokens statement = (tokens : List Token) × All IsToken tokens × Spells (symbols tokens) statement
