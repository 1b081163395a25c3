use Rattle.beas_core.specs.Guiding.{block_tasks}
use Rattle.beas_core.proofs.ReasonFacts.{covered-no_first, no_first-covered}
use Rattle.beas_core.proofs.TaskFacts.{guided_only_with_guide}
use Rattle.beas_laws.proofs.coverage.law_first_uncovered.Goals as goal

pub returns : goal.returns
returns c = record {
  covered = λ constraints.
      let tasks = block_tasks constraints c.args.query.now in
      (λ h. covered-no_first tasks h, λ e. no_first-covered tasks e);
  guided = λ constraints. guided_only_with_guide constraints c.args.query.now;
}
