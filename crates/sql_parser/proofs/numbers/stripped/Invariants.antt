use Rattle.std.proofs.Common.{◌≡◌, length}
use denote.Text.{Utf8}
use denote.Shadow.{shadow}
use Rattle.sql_text.specs.Grammar.{significant_digits}
use Rattle.sql_parser.proofs.numbers.stripped.Given as goal

abbrev pub invariant-loop-rest : goal.invariant-loop-rest
invariant-loop-rest l = shadow (Utf8 l.digits) × (significant_digits l.digits ≡ significant_digits l.initial.digits)

abbrev pub decreases-loop-rest : goal.decreases-loop-rest
decreases-loop-rest l = length l.digits
