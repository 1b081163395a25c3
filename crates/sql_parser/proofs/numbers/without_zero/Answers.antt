use Rattle.std.proofs.Common.{arith}
use Rattle.std.proofs.lemmas.Str.Pattern.{strip_prefix_char}
use Rattle.sql_parser.proofs.Digits.{keeps_none}
use Rattle.sql_parser.proofs.numbers.without_zero.Goals as goal

pub returns-in_err-rest-clause-same : goal.returns-in_err-rest-clause-same
returns-in_err-rest-clause-same c =
    rw c.from_residual.ensures (keeps_none c.args.digits.now c.strip_prefix.result c.in_err-rest.was
    (strip_prefix_char 48 c.args.digits.now c.strip_prefix.result c.strip_prefix.ensures.cases (omega arith)))
