use Rattle.std.proofs.Common.{◌≡◌, ◌∙◌, ◌++◌, ℕ, List, length}
use Rattle.std.specs.Prelude.{map}
use Rattle.std.proofs.lemmas.Result.{IfOk-weaker}
use Rattle.report.specs.declared.reports.Report.TheVariants.{Answered}
use Rattle.report.specs.Reports.{bound_text, field_text, counts_text, records_text, report_text}
use Rattle.report.proofs.ReportFacts.{answered_whole}
use Rattle.report.proofs.reports.answered_text.Goals as goal

pub returns : goal.returns
returns c =
    IfOk-weaker c.answer_text.result
    (λ (text : List ℕ). text ≡ (bound_text c.args.number c.args.bound c.args.plan.now
    ++ records_text field_text (map (λ name. name) c.as_slice.result.now) c.as_slice-2.result.now)
    ++ counts_text c.args.number (length c.as_slice-2.result.now) c.args.reads)
    (λ (text : List ℕ). text ≡ report_text c.args.number (Answered c.args.bound c.args.plan.now c.args.header.now c.args.rows.now c.args.reads))
    (λ text same. same ∙ answered_whole c.args.number c.args.bound c.args.reads c.args.plan.now _ _ _ _ c.as_slice.ensures c.as_slice-2.ensures)
    c.answer_text.ensures
