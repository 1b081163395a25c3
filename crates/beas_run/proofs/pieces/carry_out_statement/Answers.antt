use Rattle.std.proofs.Common.{◌≡◌, ◌∙◌, ap, refl, sym}
use Rattle.version_store.specs.Desks.{without_query_of}
use Rattle.beas_run.proofs.DoneFacts.{on_error}
use Rattle.beas_run.proofs.LeftFacts.{left_by_statement}
use Rattle.beas_run.proofs.UnnamedFacts.{HasOpened, answer_done, answer_left, answer_spared, answer_stays, answer_take, done_unopened, has_opened, left_unnamed, opened_spared, take_unnamed, unopened_stays}
use Rattle.beas_run.proofs.pieces.carry_out_statement.Goals as goal

pub returns-in_err-report-clause-left : goal.returns-in_err-report-clause-left
returns-in_err-report-clause-left g c =
    let e = c.in_err-report.ensures in
    let s = c.args.desk.now.settings in
    on_error c.from_residual.result
    (left_unnamed s c.args.statement _ _ _ _ _ _ (left_by_statement s 0 c.args.statement _ _ _ _ _ _ refl e.told.0 e.err e.at_most e.no_fewer e.loaded))

pub returns-in_err-report-clause-desk : goal.returns-in_err-report-clause-desk
returns-in_err-report-clause-desk g c =
    let e = c.in_err-report.ensures in
    on_error c.from_residual.result
    (ap (without_query_of 0) e.err, take_unnamed c.args.desk.now.settings c.args.statement c.args.desk.now _ _ e.at_most)

pub answer-requires : goal.answer-requires
answer-requires g c =
    let opened : HasOpened c.args.desk.now.settings c.args.statement c.in_ok-report.report c.args.desk.now c.say.new.desk =
    has_opened c.args.desk.now.settings c.args.statement c.args.desk.now c.say.new.desk _ _ _ _ _ c.in_ok-report.ensures.did
    (sym c.is_opened.ensures ∙ c.if-is_opened.true) in
    opened.new

pub returns-then-is_opened-clause-done : goal.returns-then-is_opened-clause-done
returns-then-is_opened-clause-done g c =
    let e = c.in_ok-report.ensures in
    let a = c.answer.ensures in
    let opened : HasOpened c.args.desk.now.settings c.args.statement c.in_ok-report.report c.args.desk.now c.say.new.desk =
    has_opened c.args.desk.now.settings c.args.statement c.args.desk.now c.say.new.desk _ _ _ _ _ e.did
    (sym c.is_opened.ensures ∙ c.if-is_opened.true) in
    rw a.unread
    (answer_done c.args.desk.now.settings c.args.statement _ _ _ _ opened _ _ _ _ _ c.in_ok-report.report c.answer.result e.did e.told.1 a.within
    a.answered)

pub returns-then-is_opened-clause-left : goal.returns-then-is_opened-clause-left
returns-then-is_opened-clause-left g c =
    let e = c.in_ok-report.ensures in
    let a = c.answer.ensures in
    let opened : HasOpened c.args.desk.now.settings c.args.statement c.in_ok-report.report c.args.desk.now c.say.new.desk =
    has_opened c.args.desk.now.settings c.args.statement c.args.desk.now c.say.new.desk _ _ _ _ _ e.did
    (sym c.is_opened.ensures ∙ c.if-is_opened.true) in
    rw a.unread
    (answer_left c.args.desk.now.settings c.args.statement _ _ _ _ opened _ _ _ _ _ c.in_ok-report.report c.answer.result e.did e.no_fewer a.no_fewer
    a.at_most a.db)

pub returns-then-is_opened-clause-desk : goal.returns-then-is_opened-clause-desk
returns-then-is_opened-clause-desk g c =
    let e = c.in_ok-report.ensures in
    let opened : HasOpened c.args.desk.now.settings c.args.statement c.in_ok-report.report c.args.desk.now c.say.new.desk =
    has_opened c.args.desk.now.settings c.args.statement c.args.desk.now c.say.new.desk _ _ _ _ _ e.did
    (sym c.is_opened.ensures ∙ c.if-is_opened.true) in
    let spared : without_query_of 0 c.say.new.desk ≡ without_query_of 0 c.args.desk.now =
    opened_spared c.args.desk.now.settings c.args.statement c.in_ok-report.report c.args.desk.now c.say.new.desk c.args.steps.now c.say.new.steps
    opened e.told.0 e.told.1 e.settings e.goes_on in
    answer_spared c.args.statement c.args.desk.now c.say.new.desk c.answer.new.desk c.answer.result c.args.steps.now c.answer.new.steps
    spared c.answer.ensures.others
    (answer_take c.args.desk.now.settings c.args.statement _ _ c.answer.new.desk _ opened _ _ _ _ _ c.in_ok-report.report c.answer.result e.did spared
    c.answer.ensures.own_reads)

pub returns-else-is_opened-clause-done : goal.returns-else-is_opened-clause-done
returns-else-is_opened-clause-done g c =
    let e = c.in_ok-report.ensures in
    done_unopened c.args.desk.now.settings c.args.statement _ c.in_ok-report.report _ _ _ _ _ (sym c.is_opened.ensures ∙ c.if-is_opened.false) e.told.1
    e.within e.did

pub returns-then-is_opened-clause-goes_on : goal.returns-then-is_opened-clause-goes_on
returns-then-is_opened-clause-goes_on g c =
    let e = c.in_ok-report.ensures in
    let opened : HasOpened c.args.desk.now.settings c.args.statement c.in_ok-report.report c.args.desk.now c.say.new.desk =
    has_opened c.args.desk.now.settings c.args.statement c.args.desk.now c.say.new.desk _ _ _ _ _ e.did
    (sym c.is_opened.ensures ∙ c.if-is_opened.true) in
    answer_stays c.args.statement c.args.desk.now c.say.new.desk c.answer.new.desk c.answer.result c.args.steps.now c.answer.new.steps e.told.0
    opened.idle
    (opened_spared c.args.desk.now.settings c.args.statement c.in_ok-report.report c.args.desk.now c.say.new.desk c.args.steps.now c.say.new.steps
    opened e.told.0 e.told.1 e.settings e.goes_on)
    c.answer.ensures.closed

pub returns-else-is_opened-clause-goes_on : goal.returns-else-is_opened-clause-goes_on
returns-else-is_opened-clause-goes_on g c =
    let e = c.in_ok-report.ensures in
    unopened_stays c.args.statement c.in_ok-report.report c.args.desk.now c.say.new.desk c.args.steps.now c.say.new.steps
    (sym c.is_opened.ensures ∙ c.if-is_opened.false) e.goes_on
