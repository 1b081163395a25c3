use Rattle.std.proofs.Common.{◌≡◌, ◌-◌, ◌++◌, length}
use Rattle.sql_tokens.specs.Cuts.{IsAtToken}
use Rattle.sql_tokens.specs.Pieces.{tokens_past}
use Rattle.sql_tokens.specs.Tokens.{tokens_of}
use Rattle.sql_tokens.proofs.lexer.lex.Given as goal

abbrev pub invariant-loop-at : goal.invariant-loop-at
invariant-loop-at l = record {
  open_at : IsAtToken l.source l.at;
  known : l.tokens ++ tokens_past l.at l.source ≡ tokens_of l.source;
}

abbrev pub decreases-loop-at : goal.decreases-loop-at
decreases-loop-at l = length l.source - l.at
