use Rattle.std.proofs.Common.{◌-◌, ◌∙◌, sym, arith}
use Rattle.std.proofs.lemmas.Result.{err_from_is_err_and}
use Rattle.sql_parser.specs.Reading.{after, read_condition, read_conditions}
use Rattle.sql_parser.proofs.Fronts.{adding_fails, conditions-go_on, conditions-end, conditions-none, conditions-over}
use Rattle.sql_parser.proofs.conditions.+conditions.Goals as goal

pub some_conditions-returns-in_err-condition : goal.some_conditions-returns-in_err-condition
some_conditions-returns-in_err-condition t c =
    let p = err_from_is_err_and c.from_residual.result c.from_residual.ensures.1 in
    let front = c.loop-room.found in
    let part = after front (read_condition (read_conditions (c.loop-room.room - 1)) c.loop-room.reader) in
    let whole = after c.args.found.now (read_conditions c.args.room c.args.reader.now) in
    rw (p.1, p.2) (adding_fails c.in_err-condition.field-0.0 c.condition.new.found c.condition.new.found c.condition.new.reader part whole
    c.in_err-condition.ensures
    (λ e. conditions-none c.loop-room.room (omega arith) front c.loop-room.reader whole c.loop-room.invariant.0 e))

pub some_conditions-returns-then-not-take_word : goal.some_conditions-returns-then-not-take_word
some_conditions-returns-then-not-take_word t c =
    sym c.loop-room.invariant.0 ∙ rw c.if-not-take_word.ensures.rest (conditions-end c.loop-room.room
    (omega arith) c.loop-room.found c.condition.new.found c.loop-room.reader
    c.condition.new.reader c.in_ok-condition.ensures (sym c.if-not-take_word.ensures.found))

pub some_conditions-loop-room-preserved : goal.some_conditions-loop-room-preserved
some_conditions-loop-room-preserved t c = (
  rw c.if-not-take_word.ensures.rest (sym (conditions-go_on c.loop-room.room
      (omega arith) c.loop-room.found c.condition.new.found c.loop-room.reader c.condition.new.reader
      c.in_ok-condition.ensures (sym c.if-not-take_word.ensures.found)) ∙ c.loop-room.invariant.0),
  omega (arith, c.loop-room.invariant.1),
)

pub some_conditions-returns : goal.some_conditions-returns
some_conditions-returns t c = sym c.loop-room.invariant.0 ∙ conditions-over c.loop-room.room c.loop-room.found c.loop-room.reader (omega arith)
