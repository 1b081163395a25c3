-- Where a piece stands among the tokens of a text.
use Rattle.std.specs.Prelude.{◌<◌, ◌≤◌, ◌-◌, ◌^◌, List, length}
use Rattle.sql_tokens.specs.declared.token.Token.{Token}
use Rattle.sql_tokens.specs.declared.token.Piece.{Piece}

pub record IsWithin (tokens : List Token) (piece : Piece) : Type 0 where
  pub order : piece.from ≤ piece.to
  pub end : piece.to ≤ length tokens
  pub few : length tokens < 2 ^ 32 - 1
