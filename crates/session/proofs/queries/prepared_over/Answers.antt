use Rattle.std.proofs.Common.{sym, subst}
use Rattle.std.proofs.lemmas.Result.{IfOk-weaker}
use Rattle.beas_core.specs.declared.plan.Prepared.{Prepared}
use Rattle.beas_core.specs.Fits.{Fits}
use Rattle.beas_core.specs.Types.{TableRows}
use Rattle.beas_core.specs.Results.{Gives}
use Rattle.catalogue.specs.Database.{rows_at}
use Rattle.catalogue.specs.Queries.{RowsAreWide}
use Rattle.session.specs.Stores.{database_in}
use Rattle.session.specs.Announced.{announcement}
use Rattle.session.proofs.StoreFacts.{schema_is_catalogue, stored_rows_are_wide}
use Rattle.session.proofs.queries.prepared_over.Goals as goal

pub returns-clause-announced : goal.returns-clause-announced
returns-clause-announced c =
    subst (λ s. Gives c.announcement.result (announcement c.args.settings.now.limits.now c.args.settings.now.budget s c.args.tree.now))
    (sym (schema_is_catalogue c.args.store.now))
    c.announcement.ensures.announced

pub returns-clause-fits : goal.returns-clause-fits
returns-clause-fits c =
    let g = c.args.store.now in
    IfOk-weaker c.announcement.result (λ (p : Prepared). (rows : TableRows) → RowsAreWide g.catalogue rows → Fits g.catalogue.accesses rows p)
    (λ (p : Prepared). Fits g.catalogue.accesses (rows_at (database_in g)) p) (λ p fits. fits (rows_at (database_in g)) (stored_rows_are_wide g))
    c.announcement.ensures.fits
