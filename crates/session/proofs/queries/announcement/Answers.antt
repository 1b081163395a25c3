use Rattle.std.proofs.Common.{◌∙◌, ap, sym, subst, Ok}
use Rattle.std.proofs.lemmas.Result.{err_from_is_err_and}
use Rattle.beas_core.specs.declared.errors.Fail.TheVariants.{Refused}
use Rattle.beas_core.specs.declared.plan.Prepared.{Prepared}
use Rattle.beas_core.specs.Fits.{Fits, PlanFits}
use Rattle.beas_core.specs.Trees.{QueryTree}
use Rattle.catalogue.specs.Queries.{QueryIsOver}
use Rattle.session.proofs.AnnouncedFacts.{announced, announced_unbound, announced_unprepared, within_same}
use Rattle.session.proofs.CarryFacts.{failed}
use Rattle.session.proofs.OutputFacts.{query_kept}
use Rattle.session.proofs.queries.announcement.Goals as goal

pub returns-in_err-query-clause-announced : goal.returns-in_err-query-clause-announced
returns-in_err-query-clause-announced c =
    let p = err_from_is_err_and c.from_residual.result c.from_residual.ensures.1 in
    rw (p.1, p.2)
    (announced_unbound c.args.settings.now.limits.now c.args.settings.now.budget c.args.catalogue.now c.args.tree.now
    c.in_err-query.field-0.0 c.in_err-query.ensures.refused)

pub returns-in_err-prepared-clause-announced : goal.returns-in_err-prepared-clause-announced
returns-in_err-prepared-clause-announced c =
    let p = err_from_is_err_and c.from_residual-in_err-prepared.result c.from_residual-in_err-prepared.ensures.1 in
    let query = c.in_ok-query.query in
    let x = c.in_err-prepared.field-0.0 in
    rw (p.1, p.2)
    (announced_unprepared c.args.settings.now.limits.now c.args.settings.now.budget c.args.catalogue.now c.args.tree.now query
    c.in_ok-query.ensures.refused c.in_ok-query.ensures.query x
    c.in_err-prepared.ensures.prepared)

pub returns-in_err-refuse_above-clause-announced : goal.returns-in_err-refuse_above-clause-announced
returns-in_err-refuse_above-clause-announced c =
    let p = err_from_is_err_and c.from_residual-in_err-refuse_above.result c.from_residual-in_err-refuse_above.ensures.1 in
    let query = c.in_ok-query.query in
    let prepared = c.in_ok-prepared.prepared in
    rw (p.1, p.2)
    (announced c.args.settings.now.limits.now c.args.settings.now.budget c.args.catalogue.now c.args.tree.now query
    c.in_ok-query.ensures.refused c.in_ok-query.ensures.query prepared
    (failed Prepared (Refused c.in_err-refuse_above.field-0.0)) c.in_ok-prepared.ensures.prepared (sym c.in_err-refuse_above.ensures))

pub returns-clause-announced : goal.returns-clause-announced
returns-clause-announced c =
    let query = c.in_ok-query.query in
    let prepared = c.in_ok-prepared.prepared in
    announced c.args.settings.now.limits.now c.args.settings.now.budget c.args.catalogue.now c.args.tree.now query
    c.in_ok-query.ensures.refused c.in_ok-query.ensures.query prepared
    (Ok c.in_ok-refuse_above.field-0) c.in_ok-prepared.ensures.prepared (sym c.in_ok-refuse_above.ensures)

pub returns-clause-plan : goal.returns-clause-plan
returns-clause-plan c =
    let prepared = c.in_ok-prepared.prepared in
    let kept = c.in_ok-refuse_above.field-0 in
    subst (PlanFits c.args.catalogue.now.accesses) (sym (within_same c.args.settings.now.budget prepared kept (sym c.in_ok-refuse_above.ensures)))
    c.in_ok-prepared.ensures.plan

pub returns-clause-fits : goal.returns-clause-fits
returns-clause-fits c =
    let prepared = c.in_ok-prepared.prepared in
    let kept = c.in_ok-refuse_above.field-0 in
    λ rows wide. subst (λ (q : Prepared). Fits c.args.catalogue.now.accesses rows q)
    (sym (within_same c.args.settings.now.budget prepared kept (sym c.in_ok-refuse_above.ensures))) (c.in_ok-prepared.ensures.fits rows wide)

pub returns-clause-over : goal.returns-clause-over
returns-clause-over c =
    let query = c.in_ok-query.query in
    let prepared = c.in_ok-prepared.prepared in
    let kept = c.in_ok-refuse_above.field-0 in
    let same = ap (λ (p : Prepared). p.query) (within_same c.args.settings.now.budget prepared kept (sym c.in_ok-refuse_above.ensures))
    ∙ query_kept c.args.catalogue.now query prepared c.in_ok-prepared.ensures.prepared in
    subst (λ (t : QueryTree). QueryIsOver c.args.catalogue.now t) (sym same) c.in_ok-query.ensures.over
