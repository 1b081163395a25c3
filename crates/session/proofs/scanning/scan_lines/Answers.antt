use Rattle.std.proofs.Common.{◌≡◌, ◌<◌, length, arith, sym, subst}
use Rattle.std.specs.Prelude.{IfOk}
use Rattle.std.proofs.lemmas.List.Elements.{All-weaker}
use Rattle.beas_core.specs.declared.schema.Access.{Access}
use Rattle.partial_plan.specs.ScanPlans.{IsNewScan}
use Rattle.report.specs.Plans.{plan_text_over}
use Rattle.session.proofs.StoreFacts.{schema_is_catalogue}
use Rattle.session.proofs.scanning.scan_lines.Goals as goal

pub plan_text_over-requires-clause-plan : goal.plan_text_over-requires-clause-plan
plan_text_over-requires-clause-plan c = c.requires.fits.plan

pub plan_text_over-requires-clause-tables : goal.plan_text_over-requires-clause-tables
plan_text_over-requires-clause-tables c =
    let g = c.args.store.now in
    All-weaker (IsNewScan g.catalogue.accesses g.rows) (λ (a : Access). a.table.0 < length g.catalogue.tables)
    (λ a new. omega (arith, new.table, g.kept.tables)) c.args.plan.now.scans c.requires.scans

pub returns : goal.returns
returns c =
    subst (λ s. IfOk c.plan_text_over.result (λ text. text ≡ plan_text_over s c.args.plan.now.scans c.args.plan.now.prepared))
    (sym (schema_is_catalogue c.args.store.now)) c.plan_text_over.ensures
