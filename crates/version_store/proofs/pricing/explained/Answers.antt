use Rattle.std.proofs.Common.{◌∙◌, ap, sym}
use Rattle.report.specs.declared.reports.Report.TheVariants.{Explained}
use Rattle.report.specs.Plans.{plan_text}
use Rattle.session.proofs.StoreFacts.{schema_is_catalogue}
use Rattle.version_store.proofs.pricing.explained.Goals as goal

pub returns : goal.returns
returns c =
    ap (Explained c.args.prepared.now.bound)
    (c.in_ok-plan.ensures ∙ ap (λ s. plan_text s c.args.prepared.now) (sym (schema_is_catalogue c.args.session.now.guarded)))
