use Rattle.std.proofs.Common.{ap, Err}
use Rattle.sql_text.specs.Symbols.{symbols}
use Rattle.sql_parser.proofs.Parsing.{deep-parsed, syntax-parsed, answer-parsed}
use Rattle.sql_parser.proofs.whole.reading.Goals as goal

pub returns-in_default : goal.returns-in_default
returns-in_default c = deep-parsed (symbols c.args.tokens.now) c.in_default.ensures

pub returns-in-Err-Syntax : goal.returns-in-Err-Syntax
returns-in-Err-Syntax c = syntax-parsed (symbols c.args.tokens.now) c.in-Some.ensures.0
    (c.in-Err-Syntax.ensures.syntax (ap (λ e. Err e) c.in-Err-Syntax.field-0-is))

pub returns-in-Ok : goal.returns-in-Ok
returns-in-Ok c = answer-parsed (symbols c.args.tokens.now) c.in-Ok.statement c.lacks_distinct.result c.in-Some.ensures.0 c.in-Ok.ensures.ok
    c.lacks_distinct.ensures c.unless_lone.result c.unless_lone.ensures
