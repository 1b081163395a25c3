use Rattle.std.proofs.lemmas.Result.{IfOk-weaker}
use Rattle.beas_core.specs.declared.plan.Prepared.{Prepared}
use Rattle.beas_core.specs.Fits.{Fits}
use Rattle.beas_core.specs.Types.{TableRows}
use Rattle.catalogue.specs.Database.{rows_at}
use Rattle.catalogue.specs.Queries.{RowsAreWide}
use Rattle.session.proofs.StoreFacts.{stored_rows_are_wide}
use Rattle.session.specs.Stores.{database_in}
use Rattle.named_cases.proofs.outcomes.prepared_over.Goals as goal

pub returns : goal.returns
returns c =
    let g = c.args.guarded.now in
    IfOk-weaker c.prepare.result (λ (p : Prepared). (rows : TableRows) → RowsAreWide g.catalogue rows → Fits g.catalogue.accesses rows p)
    (λ (p : Prepared). Fits g.catalogue.accesses (rows_at (database_in g)) p) (λ p fits. fits (rows_at (database_in g)) (stored_rows_are_wide g))
    c.prepare.ensures.fits
