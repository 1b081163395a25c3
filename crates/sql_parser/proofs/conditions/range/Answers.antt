use Rattle.std.proofs.Common.{refl}
use Rattle.std.proofs.lemmas.Result.{err_from_is_err_and}
use Rattle.sql_text.specs.declared.tree.Side.TheVariants.{Column as Placed}
use Rattle.sql_parser.specs.Alone.{alone}
use Rattle.sql_parser.specs.Reading.{after, read_ends, read_range}
use Rattle.sql_parser.proofs.InParts.{part_fails, range-fails, range-found}
use Rattle.sql_parser.proofs.conditions.range.Goals as goal

pub returns-in_default : goal.returns-in_default
unfolding after read_range
returns-in_default c = rw c.in_default.is refl

pub returns-in_err-low : goal.returns-in_err-low
returns-in_err-low c =
    let p = err_from_is_err_and c.from_residual.result c.from_residual.ensures.1 in
    let front = c.args.found.now in
    let tokens = c.args.reader.now in
    rw (c.in-Column.is, p.1, p.2) (part_fails c.in_err-low.field-0.0 front c.ends.new.reader (read_ends tokens)
    (after front (alone (read_range (Placed c.in-Column.value) tokens))) c.in_err-low.ensures (range-fails c.in-Column.value front tokens))

pub returns : goal.returns
returns c = rw (c.in-Column.is, c.in_ok-push.ensures.ok)
    (range-found c.in-Column.value c.args.found.now c.args.reader.now c.ends.new.reader c.in_ok-low.low c.in_ok-low.high c.in_ok-low.ensures)
