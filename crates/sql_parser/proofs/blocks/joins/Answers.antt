use Rattle.std.proofs.Common.{◌∙◌, sym, length, arith}
use Rattle.std.proofs.lemmas.Result.{err_from_is_err_and}
use Rattle.sql_text.specs.Grammar.{Source}
use Rattle.sql_parser.specs.Reading.{after_both, read_join, read_joins}
use Rattle.sql_parser.proofs.Fronts.{adding_fails, joins-go_on, joins-end, joins-none, joins-over}
use Rattle.sql_parser.proofs.blocks.joins.Goals as goal

pub returns-then-room-eq0 : goal.returns-then-room-eq0
returns-then-room-eq0 c = sym c.more.invariant ∙ joins-over c.more.room (c.more.items, c.more.found) c.more.reader (omega arith)
    (sym c.next_is_join.ensures ∙ c.more-test.true)

pub returns-in_err-join : goal.returns-in_err-join
returns-in_err-join c =
    let p = err_from_is_err_and c.from_residual.result c.from_residual.ensures.1 in
    let front : Source = (c.more.items, c.more.found) in
    let part = after_both front (read_join c.more.reader) in
    let whole = after_both (c.args.items.now, c.args.found.now) (read_joins (length c.args.reader.now) c.args.reader.now) in
    rw (p.1, p.2) (adding_fails c.in_err-join.field-0.0 (c.join.new.items, c.join.new.found) (c.join.new.items, c.join.new.found) c.join.new.reader part whole
    c.in_err-join.ensures
    (λ e. joins-none c.more.room (omega arith) front c.more.reader whole c.more.invariant (sym c.next_is_join.ensures ∙ c.more-test.true) e))

pub more-preserved : goal.more-preserved
more-preserved c =
    sym (joins-go_on c.more.room (omega arith) (c.more.items, c.more.found) (c.join.new.items, c.join.new.found) c.more.reader c.join.new.reader
    (sym c.next_is_join.ensures ∙ c.more-test.true) c.in_ok-join.ensures) ∙ c.more.invariant

pub returns : goal.returns
returns c = sym c.more.invariant ∙ joins-end c.more.room (c.more.items, c.more.found) c.more.reader (sym c.next_is_join.ensures ∙ c.more-test.false)
