use Rattle.std.proofs.Common.{◌-◌, ◌∙◌, sym, arith}
use Rattle.std.proofs.lemmas.Result.{err_from_is_err_and}
use Rattle.sql_parser.specs.declared.queries.Front.TheVariants.{Nothing}
use Rattle.sql_parser.specs.Reading.{read_term, read_query}
use Rattle.sql_parser.proofs.Loops.{fails_on}
use Rattle.sql_parser.proofs.Fronts.{terms-union, terms-except, terms-end, terms-none, terms-over}
use Rattle.sql_parser.proofs.queries.+queries.Goals as goal
use Rattle.sql_parser.proofs.queries.+queries.Goals.{some_terms-then-next_is_word, some_terms-else-next_is_word+then-next_is_word-2}

pub some_terms-returns-in_err-term : goal.some_terms-returns-in_err-term
some_terms-returns-in_err-term t c =
    let p = err_from_is_err_and c.from_residual.result c.from_residual.ensures.1 in
    let part = read_term (read_query (c.loop-room.room - 1) Nothing) c.loop-room.reader in
    let whole = read_query c.args.room Nothing c.args.reader.now in
    rw (p.1, p.2) (fails_on c.in_err-term.field-0.0 c.term.new.reader c.term.new.reader part whole c.in_err-term.ensures
    (λ e. sym c.loop-room.invariant.0 ∙ terms-none c.loop-room.room (omega arith) c.loop-room.front c.loop-room.reader e))

pub some_terms-returns-else-next_is_word-2 : goal.some_terms-returns-else-next_is_word-2
some_terms-returns-else-next_is_word-2 t c =
    sym c.loop-room.invariant.0 ∙ rw c.in_ok-tree.ensures (terms-end c.loop-room.room (omega arith) c.loop-room.front c.loop-room.reader c.in_ok-term.term
    c.term.new.reader c.in_ok-term.ensures (sym c.if-next_is_word.ensures) (sym c.if-next_is_word-2.ensures))

pub some_terms-loop-room-preserved : goal.some_terms-loop-room-preserved
some_terms-loop-room-preserved t c = (
  elim c.if-next_is_word.branch [
    | some_terms-then-next_is_word w ↦
        rw (w.front-is, c.skip.ensures, c.in_ok-tree.ensures)
        (sym (terms-union c.loop-room.room (omega arith) c.loop-room.front c.loop-room.reader c.in_ok-term.term c.term.new.reader c.in_ok-term.ensures
        (sym c.next_is_word.ensures ∙ w.if-next_is_word.true)) ∙ c.loop-room.invariant.0)
    | some_terms-else-next_is_word+then-next_is_word-2 w ↦
        rw (w.front-is, c.skip.ensures, c.in_ok-tree.ensures)
        (sym (terms-except c.loop-room.room (omega arith) c.loop-room.front c.loop-room.reader c.in_ok-term.term c.term.new.reader c.in_ok-term.ensures
        (sym c.next_is_word.ensures ∙ w.if-next_is_word.false) (sym w.next_is_word-else-next_is_word.ensures ∙ w.if-next_is_word-2.true))
        ∙ c.loop-room.invariant.0)
  ],
  omega (arith, c.loop-room.invariant.1),
)

pub some_terms-returns : goal.some_terms-returns
some_terms-returns t c = sym c.loop-room.invariant.0 ∙ terms-over c.loop-room.room c.loop-room.front c.loop-room.reader (omega arith)
