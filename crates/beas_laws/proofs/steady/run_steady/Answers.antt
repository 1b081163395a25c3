use Rattle.beas_laws.proofs.SteadyFacts.{never_failed, never_unread, no_fault, none_rose, walked_failures, walked_readable}
use Rattle.std.proofs.Common.{refl}
use Rattle.beas_laws.proofs.steady.run_steady.Goals as goal

pub returns-clause-read : goal.returns-clause-read
returns-clause-read g c = never_unread _ _ _ _ _ _ c.run.ensures.ran.ended (no_fault _)

pub returns-clause-sent : goal.returns-clause-sent
returns-clause-sent g c = never_failed _ _ _ _ _ _ c.run.ensures.ran.ended none_rose

pub returns-clause-complete : goal.returns-clause-complete
returns-clause-complete g c = λ name named. c.run.ensures.complete.complete name _ named
    (record { told = refl; content = refl; no_fault = none_rose }) none_rose

pub returns-clause-complete_without : goal.returns-clause-complete_without
returns-clause-complete_without g c = λ name named. c.run.ensures.complete.complete_without name _ named
    (record { told = refl; content = refl; no_fault = none_rose })

pub returns-clause-loads : goal.returns-clause-loads
returns-clause-loads g c =
    let run = c.run.ensures.ran in
    record {
      said_before = _;
      said_after = _;
      run = run;
      none = λ name. walked_failures _ _ _ _ _ _ run.walked name refl;
      readable = walked_readable _ _ _ _ _ _ _ run.walked run.read_as (λ name. refl);
    }
