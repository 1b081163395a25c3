use Rattle.std.proofs.Common.{None, subst, sym}
use Rattle.std.proofs.lemmas.Result.{err_from_is_err_and}
use Rattle.beas_core.specs.declared.plan.Prepared.{Prepared}
use Rattle.beas_core.specs.Results.{Gives}
use Rattle.session.specs.Announced.{announcement}
use Rattle.session.proofs.AnnouncedFacts.{announced_unbound}
use Rattle.session.proofs.CarryFacts.{failed}
use Rattle.session.proofs.StoreFacts.{schema_is_catalogue}
use Rattle.version_store.proofs.PricingFacts.{announced_prepared}
use Rattle.version_store.proofs.pricing.prepared.Goals as goal

pub returns-in_err-query-clause-announced : goal.returns-in_err-query-clause-announced
returns-in_err-query-clause-announced c =
    let p = err_from_is_err_and c.from_residual.result c.from_residual.ensures.1 in
    let session = c.args.session.now in
    rw (p.1, p.2)
    (subst (λ s. Gives (failed Prepared c.in_err-query.field-0.0) (announcement session.limits None s c.args.tree.now))
    (sym (schema_is_catalogue session.guarded))
    (announced_unbound session.limits None session.guarded.catalogue c.args.tree.now c.in_err-query.field-0.0 c.in_err-query.ensures.refused))

pub returns-clause-announced : goal.returns-clause-announced
returns-clause-announced c =
    let session = c.args.session.now in
    subst (λ s. Gives c.prepare.result (announcement session.limits None s c.args.tree.now)) (sym (schema_is_catalogue session.guarded))
    (announced_prepared session.limits session.guarded.catalogue c.args.tree.now c.in_ok-query.query
    c.in_ok-query.ensures.refused c.in_ok-query.ensures.query c.prepare.result c.prepare.ensures.prepared)
