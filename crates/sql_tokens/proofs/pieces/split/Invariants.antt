use Rattle.std.proofs.Common.{◌≡◌, ◌-◌, ◌≤◌, ◌++◌, length, drop}
use Rattle.std.specs.List.{slice_split}
use Rattle.sql_tokens.specs.Pieces.{pieces_of, places, without_empty, is_semicolon}
use Rattle.sql_tokens.proofs.pieces.split.Given as goal

abbrev pub invariant-loop-pieces : goal.invariant-loop-pieces
invariant-loop-pieces l = record {
  within : l.from ≤ length l.all;
  known : l.pieces ++ without_empty (places l.from (slice_split is_semicolon (drop l.from l.all))) ≡ pieces_of l.all;
}

abbrev pub decreases-loop-pieces : goal.decreases-loop-pieces
decreases-loop-pieces l = length l.all - l.from
