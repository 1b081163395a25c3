use Rattle.std.proofs.Common.{◌∙◌, sym, length, arith}
use Rattle.std.proofs.lemmas.Result.{err_from_is_err_and}
use Rattle.sql_text.specs.Grammar.{Source}
use Rattle.sql_parser.specs.Reading.{after_both, read_source, read_sources}
use Rattle.sql_parser.proofs.Fronts.{adding_fails, sources-go_on, sources-end, sources-none, sources-over}
use Rattle.sql_parser.proofs.blocks.from_sources.Goals as goal

pub returns-in_err-from_source : goal.returns-in_err-from_source
returns-in_err-from_source c =
    let p = err_from_is_err_and c.from_residual.result c.from_residual.ensures.1 in
    let front : Source = (c.loop-room.items, c.loop-room.found) in
    let part = after_both front (read_source c.loop-room.reader) in
    let whole = after_both (c.args.items.now, c.args.found.now) (read_sources (length c.args.reader.now) c.args.reader.now) in
    rw (p.1, p.2) (adding_fails c.in_err-from_source.field-0.0 (c.from_source.new.items, c.from_source.new.found)
    (c.from_source.new.items, c.from_source.new.found) c.from_source.new.reader part whole c.in_err-from_source.ensures
    (λ e. sources-none c.loop-room.room (omega arith) front c.loop-room.reader whole c.loop-room.invariant e))

pub returns-then-not-take_mark : goal.returns-then-not-take_mark
returns-then-not-take_mark c =
    sym c.loop-room.invariant ∙ rw c.if-not-take_mark.ensures.rest (sources-end c.loop-room.room (omega arith) (c.loop-room.items, c.loop-room.found)
    (c.from_source.new.items, c.from_source.new.found) c.loop-room.reader c.from_source.new.reader c.in_ok-from_source.ensures
    (sym c.if-not-take_mark.ensures.found))

pub loop-room-preserved : goal.loop-room-preserved
loop-room-preserved c =
    rw c.if-not-take_mark.ensures.rest (sym (sources-go_on c.loop-room.room (omega arith) (c.loop-room.items, c.loop-room.found)
    (c.from_source.new.items, c.from_source.new.found) c.loop-room.reader c.from_source.new.reader c.in_ok-from_source.ensures
    (sym c.if-not-take_mark.ensures.found)) ∙ c.loop-room.invariant)

pub returns : goal.returns
returns c = sym c.loop-room.invariant ∙ sources-over c.loop-room.room (c.loop-room.items, c.loop-room.found) c.loop-room.reader (omega arith)
