use Rattle.std.proofs.Common.{◌∙◌, sym, arith}
use Rattle.std.proofs.lemmas.Result.{err_from_is_err_and}
use Rattle.sql_parser.proofs.Loops.{commas-begin, commas-go_on, commas-end, commas-none, commas-over, fails_on}
use Rattle.sql_parser.specs.Reading.{read_list}
use Rattle.sql_parser.proofs.parts.commas.Goals as goal

pub loop-room-init : goal.loop-room-init
loop-room-init g c = commas-begin g.T.Part.reads c.new-parts.result c.tokens_left-room.result c.args.reader.now c.new-parts.ensures c.tokens_left-room.ensures

pub returns-in_err-part : goal.returns-in_err-part
returns-in_err-part g c =
    let p = err_from_is_err_and c.from_residual.result c.from_residual.ensures.1 in
    rw (p.1, p.2) (fails_on c.in_err-part.field-0.0 c.read.new.reader c.read.new.reader (g.T.Part.reads c.loop-room.reader)
    (read_list g.T.Part.reads c.args.reader.now) c.in_err-part.ensures
    (λ e. sym c.loop-room.invariant ∙ commas-none g.T.Part.reads c.loop-room.parts c.loop-room.room (omega arith) c.loop-room.reader e))

pub returns-then-not-take_mark : goal.returns-then-not-take_mark
returns-then-not-take_mark g c =
    sym c.loop-room.invariant ∙ rw (c.in_ok-push.ensures.ok, c.if-not-take_mark.ensures.rest)
    (commas-end g.T.Part.reads c.loop-room.parts c.loop-room.room (omega arith) c.loop-room.reader
    c.in_ok-part.part c.read.new.reader c.in_ok-part.ensures (sym c.if-not-take_mark.ensures.found))

pub loop-room-preserved : goal.loop-room-preserved
loop-room-preserved g c =
    rw (c.in_ok-push.ensures.ok, c.if-not-take_mark.ensures.rest) (sym
    (commas-go_on g.T.Part.reads c.loop-room.parts c.loop-room.room (omega arith) c.loop-room.reader
    c.in_ok-part.part c.read.new.reader c.in_ok-part.ensures (sym c.if-not-take_mark.ensures.found)) ∙ c.loop-room.invariant)

pub returns : goal.returns
returns g c = sym c.loop-room.invariant ∙ commas-over g.T.Part.reads c.loop-room.parts c.loop-room.room c.loop-room.reader (omega arith)
