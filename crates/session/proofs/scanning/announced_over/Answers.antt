use Rattle.std.proofs.Common.{◌≡◌, sym, subst}
use Rattle.std.proofs.lemmas.Result.{IfOk-weaker}
use Rattle.beas_core.specs.declared.schema.TableId.{TableId}
use Rattle.beas_core.specs.Results.{Gives}
use Rattle.beas_core.specs.Types.{TableRows}
use Rattle.catalogue.specs.Database.{rows_at}
use Rattle.catalogue.specs.Queries.{RowsAreWide}
use Rattle.partial_plan.specs.declared.plan.ScanPlan.{ScanPlan}
use Rattle.partial_plan.specs.ScanPlans.{ScanPlanFits}
use Rattle.partial_plan.specs.Scans.{rows_of_tables}
use Rattle.session.specs.Announced.{scan_announcement}
use Rattle.session.specs.Effects.{sizes_in}
use Rattle.session.specs.Stores.{database_in}
use Rattle.session.proofs.ScanFacts.{sizes_are}
use Rattle.session.proofs.StoreFacts.{rows_are, schema_is_catalogue, stored_rows_are_wide}
use Rattle.session.proofs.scanning.announced_over.Goals as goal

pub scan_announcement-requires-clause-tables : goal.scan_announcement-requires-clause-tables
scan_announcement-requires-clause-tables c = c.args.store.now.kept.tables

pub returns-clause-announced : goal.returns-clause-announced
returns-clause-announced c =
    let g = c.args.store.now in
    let limits = c.args.settings.now.limits.now in
    let budget = c.args.settings.now.budget in
    let r = c.scan_announcement.result in
    subst (λ s. Gives r (scan_announcement limits budget s (sizes_in (database_in g)) c.args.tree.now)) (sym (schema_is_catalogue g))
    (subst (λ sizes. Gives r (scan_announcement limits budget g.catalogue sizes c.args.tree.now)) (sym (sizes_are g)) c.scan_announcement.ensures.announced)

pub returns-clause-fits : goal.returns-clause-fits
returns-clause-fits c =
    let g = c.args.store.now in
    IfOk-weaker c.scan_announcement.result
    (λ (p : ScanPlan). (rows : TableRows) → RowsAreWide g.catalogue rows → ((id : TableId) → rows id ≡ rows_of_tables g.rows id)
    → ScanPlanFits g.catalogue.accesses rows g.rows p)
    (λ (p : ScanPlan). ScanPlanFits g.catalogue.accesses (rows_at (database_in g)) g.rows p)
    (λ p fits. fits (rows_at (database_in g)) (stored_rows_are_wide g) (rows_are g)) c.scan_announcement.ensures.fits
