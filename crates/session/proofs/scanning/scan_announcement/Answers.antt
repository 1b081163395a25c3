use Rattle.std.proofs.Common.{sym, subst, Ok}
use Rattle.std.proofs.lemmas.Result.{err_from_is_err_and}
use Rattle.beas_core.specs.declared.errors.Fail.TheVariants.{Refused}
use Rattle.partial_plan.specs.declared.plan.ScanPlan.{ScanPlan}
use Rattle.partial_plan.specs.ScanPlans.{ScanPlanFits}
use Rattle.partial_plan.specs.Scans.{sizes_of_tables}
use Rattle.session.proofs.CarryFacts.{failed}
use Rattle.session.proofs.ScanFacts.{scans_announced, scans_same, scans_unbound, scans_unprepared}
use Rattle.session.proofs.scanning.scan_announcement.Goals as goal

pub returns-in_err-query-clause-announced : goal.returns-in_err-query-clause-announced
returns-in_err-query-clause-announced c =
    let p = err_from_is_err_and c.from_residual.result c.from_residual.ensures.1 in
    rw (p.1, p.2)
    (scans_unbound c.args.settings.now.limits.now c.args.settings.now.budget c.args.catalogue.now (sizes_of_tables c.args.tables.now) c.args.tree.now
    c.in_err-query.field-0.0 c.in_err-query.ensures.bound)

pub returns-in_err-plan-clause-announced : goal.returns-in_err-plan-clause-announced
returns-in_err-plan-clause-announced c =
    let p = err_from_is_err_and c.from_residual-in_err-plan.result c.from_residual-in_err-plan.ensures.1 in
    rw (p.1, p.2)
    (scans_unprepared c.args.settings.now.limits.now c.args.settings.now.budget c.args.catalogue.now (sizes_of_tables c.args.tables.now) c.args.tree.now
    c.in_ok-query.query c.in_ok-query.ensures.bound c.in_err-plan.field-0.0 c.in_err-plan.ensures.prepared)

pub returns-in_err-refuse_above-clause-announced : goal.returns-in_err-refuse_above-clause-announced
returns-in_err-refuse_above-clause-announced c =
    let p = err_from_is_err_and c.from_residual-in_err-refuse_above.result c.from_residual-in_err-refuse_above.ensures.1 in
    rw (p.1, p.2)
    (scans_announced c.args.settings.now.limits.now c.args.settings.now.budget c.args.catalogue.now (sizes_of_tables c.args.tables.now) c.args.tree.now
    c.in_ok-query.query c.in_ok-query.ensures.bound c.in_ok-plan.plan (failed ScanPlan (Refused c.in_err-refuse_above.field-0.0))
    c.in_ok-plan.ensures.prepared (sym c.in_err-refuse_above.ensures))

pub returns-clause-announced : goal.returns-clause-announced
returns-clause-announced c =
    scans_announced c.args.settings.now.limits.now c.args.settings.now.budget c.args.catalogue.now (sizes_of_tables c.args.tables.now) c.args.tree.now
    c.in_ok-query.query c.in_ok-query.ensures.bound c.in_ok-plan.plan (Ok c.in_ok-refuse_above.field-0) c.in_ok-plan.ensures.prepared
    (sym c.in_ok-refuse_above.ensures)

pub returns-clause-fits : goal.returns-clause-fits
returns-clause-fits c =
    λ rows wide same.
    subst (λ (q : ScanPlan). ScanPlanFits c.args.catalogue.now.accesses rows c.args.tables.now q)
    (sym (scans_same c.args.settings.now.budget c.in_ok-plan.plan c.in_ok-refuse_above.field-0 (sym c.in_ok-refuse_above.ensures)))
    (c.in_ok-plan.ensures.fits rows wide same)
