use Rattle.std.proofs.Common.{◌≡◌, ◌∙◌, ℕ, ap, subst, sym}
use Rattle.std.specs.Result.{IfOk}
use Rattle.reference_evaluation.specs.contracts.probes.BlockProbe.{the_view}
use Rattle.reference_evaluation.specs.Tables.{rows_in}
use Rattle.reference_evaluation.proofs.StepFacts.{reads_by_parts}
use Rattle.reference_evaluation.proofs.reads.reads_at.Goals as goal

pub returns : goal.returns
returns c =
    subst (λ (n : ℕ). IfOk c.probe_reads.result (λ reads. reads ≡ n))
    (reads_by_parts (rows_in c.args.over.now.tables.now) c.args.over.now.plans.accesses.now c.args.over.now.plans.derivations.now c.args.probe.now
    _ _ _ _ _ _ (sym c.probe.view_is ∙ ap the_view (sym c.probe-inside.view_is)) c.steps_of-steps.ensures c.id_of_step-id.ensures c.as_slice.ensures)
    c.probe_reads.ensures
