use Rattle.std.proofs.Common.{◌≡◌, ◌++◌, length}
use denote.Text.{Utf8}
use denote.Shadow.{shadow}
use Rattle.sql_tokens.specs.Tokens.{with_quotes_doubled}
use Rattle.sql_tokens.proofs.quoting.push_doubled.Given as goal

-- what is written and then the rest, doubled, is the whole
abbrev pub invariant-loop-front : goal.invariant-loop-front
invariant-loop-front l = record {
  text : shadow (Utf8 l.rest);
  written : l.text ++ with_quotes_doubled l.rest ≡ l.fn.text ++ with_quotes_doubled l.content;
}

abbrev pub decreases-loop-front : goal.decreases-loop-front
decreases-loop-front l = length l.rest
