use Rattle.std.proofs.Common.{◌≡◌, ◌+◌, ◌-◌, ◌≤◌, length, drop}
use Rattle.std.specs.List.{position_or_len}
use Rattle.sql_tokens.specs.Pieces.{is_semicolon}
use Rattle.sql_tokens.proofs.pieces.piece_end.Given as goal

abbrev pub invariant-loop-to : goal.invariant-loop-to
invariant-loop-to l = record {
  within : l.to ≤ length l.tokens;
  len : l.to + position_or_len is_semicolon (drop l.to l.tokens) ≡ l.from + position_or_len is_semicolon (drop l.from l.tokens);
}

abbrev pub decreases-loop-to : goal.decreases-loop-to
decreases-loop-to l = length l.tokens - l.to
