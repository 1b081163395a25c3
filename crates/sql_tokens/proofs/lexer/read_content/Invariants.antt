use Rattle.std.proofs.Common.{◌-◌, length}
use Rattle.sql_tokens.proofs.Quotes.{ReadUpTo}
use Rattle.sql_tokens.proofs.lexer.read_content.Given as goal

abbrev pub invariant-loop-at : goal.invariant-loop-at
invariant-loop-at l = ReadUpTo l.source l.from l.at l.text

abbrev pub decreases-loop-at : goal.decreases-loop-at
decreases-loop-at l = length l.source - l.at
