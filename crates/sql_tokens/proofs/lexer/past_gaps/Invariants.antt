use Rattle.std.proofs.Common.{◌-◌, length}
use Rattle.sql_tokens.proofs.Steps.{IsPastBlanks}
use Rattle.sql_tokens.proofs.lexer.past_gaps.Given as goal

abbrev pub invariant-loop-to : goal.invariant-loop-to
invariant-loop-to l = IsPastBlanks l.source l.at l.to

abbrev pub decreases-loop-to : goal.decreases-loop-to
decreases-loop-to l = length l.source - l.to
