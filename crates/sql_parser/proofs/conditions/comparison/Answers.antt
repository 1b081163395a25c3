use Rattle.std.proofs.lemmas.Result.{err_from_is_err_and}
use Rattle.sql_parser.specs.Alone.{alone}
use Rattle.sql_parser.specs.Reading.{after, read_sign_and_side, read_comparison}
use Rattle.sql_parser.proofs.InParts.{part_fails, comparison-fails, comparison-refused, comparison-found}
use Rattle.sql_parser.proofs.conditions.comparison.Goals as goal

pub returns-in_err-sign : goal.returns-in_err-sign
returns-in_err-sign c =
    let p = err_from_is_err_and c.from_residual.result c.from_residual.ensures.1 in
    let front = c.args.found.now in
    let tokens = c.args.reader.now in
    rw (p.1, p.2) (part_fails c.in_err-sign.field-0.0 front c.sign_and_side.new.reader (read_sign_and_side tokens)
    (after front (alone (read_comparison c.args.left tokens))) c.in_err-sign.ensures (comparison-fails c.args.left front tokens))

pub returns-in_err-condition : goal.returns-in_err-condition
returns-in_err-condition c =
    let p = err_from_is_err_and c.from_residual-in_err-condition.result c.from_residual-in_err-condition.ensures.1 in
    let h = rw c.are_literals-is_wrong.ensures at c.in_err-condition.ensures in
    rw (p.1, p.2) (comparison-refused c.args.left c.in_ok-sign.right c.in_ok-sign.sign c.args.found.now c.args.reader.now c.sign_and_side.new.reader
    c.in_ok-sign.ensures c.in_err-condition.field-0.0 h)

pub returns : goal.returns
returns c =
    let h = rw c.are_literals-is_wrong.ensures at c.in_ok-condition.ensures in
    rw c.in_ok-push.ensures.ok (comparison-found c.args.left c.in_ok-sign.right c.in_ok-sign.sign c.args.found.now c.args.reader.now
    c.sign_and_side.new.reader c.in_ok-sign.ensures c.in_ok-condition.condition h)
