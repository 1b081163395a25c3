use Rattle.std.proofs.Common.{ap, inr, Err}
use Rattle.beas_run.proofs.DoneFacts.{reported, told_of_answer, unreported}
use Rattle.beas_run.proofs.script.carry_out.Goals as goal

pub returns-in-Ok-clause-reported : goal.returns-in-Ok-clause-reported
returns-in-Ok-clause-reported g c =
    let e = c.in-Ok.ensures in
    reported _ _ _ c.in_ok-report.report _ _ _ _ _ c.in_ok-report.ensures.done c.is_refusal-refusal.ensures e.whole e.put e.took

pub returns-in-Err-clause-stopped : goal.returns-in-Err-clause-stopped
returns-in-Err-clause-stopped g c =
    let e = c.take.ensures in
    inr (unreported _ _ _ c.in_ok-report.report c.in-Err.why _ _ c.in_ok-report.ensures.done e.part
    (λ none. c.in-Err.ensures.unsent (ap Err none)) (λ fault. c.in-Err.ensures.put_fault (ap Err fault)) e.put_once)

pub returns-in-Ok-clause-out : goal.returns-in-Ok-clause-out
returns-in-Ok-clause-out g c = told_of_answer _ _ _ _ c.in-Ok.ensures.out
