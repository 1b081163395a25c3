use Rattle.std.proofs.Common.{◌≡◌, ◌≤◌, ◌-◌, ◌++◌, false, length}
use Rattle.std.specs.Prelude.{All}
use Rattle.sql_tokens.specs.Cuts.{IsAtToken}
use Rattle.sql_tokens.specs.Pieces.{is_semicolon, tokens_past}
use Rattle.sql_tokens.proofs.piece_lexer.lex_piece.Given as goal

abbrev pub invariant-tokens : goal.invariant-tokens
invariant-tokens l = record {
  order : l.at ≤ l.place;
  open_at : IsAtToken l.source l.place;
  whole : All (λ token. is_semicolon token ≡ false) l.tokens;
  known : l.tokens ++ tokens_past l.place l.source ≡ tokens_past l.at l.source;
}

abbrev pub decreases-tokens : goal.decreases-tokens
decreases-tokens l = length l.source - l.place
