use Rattle.std.proofs.Common.{◌∙◌, sym, ap, subst, get_or}
use Rattle.sql_parser.specs.declared.statements.Opening.TheVariants.{CreateTable}
use Rattle.token_reader.specs.Reading.{GivesWithRest}
use Rattle.sql_parser.specs.Reading.{read_opened}
use Rattle.sql_parser.proofs.Openings.{passed, taken, none_left}
use Rattle.sql_parser.proofs.statements.by_first.Goals as goal

pub returns-then-take_opening : goal.returns-then-take_opening
returns-then-take_opening c =
    subst (λ read. GivesWithRest c.after_opening.result c.after_opening.new.reader read)
    (ap (read_opened (get_or c.args.openings.now c.loop-opening.opening-index CreateTable)) (c.if-take_opening.ensures.rest)
    ∙ sym (taken c.args.openings.now c.loop-opening.opening-index CreateTable c.loop-opening.reader c.loop-opening-test.true
    (sym c.if-take_opening.ensures.found)) ∙ c.loop-opening.invariant) c.after_opening.ensures

pub loop-opening-preserved : goal.loop-opening-preserved
loop-opening-preserved c =
    rw c.if-take_opening.ensures.rest
    (sym (passed c.args.openings.now c.loop-opening.opening-index CreateTable c.loop-opening.reader c.loop-opening-test.true
    (sym c.if-take_opening.ensures.found)) ∙ c.loop-opening.invariant)

pub returns : goal.returns
returns c =
    subst (λ read. GivesWithRest c.selection.result c.selection.new.reader read)
    (sym (none_left c.args.openings.now c.loop-opening.opening-index c.loop-opening.reader c.loop-opening-test.false) ∙ c.loop-opening.invariant) c.selection.ensures
