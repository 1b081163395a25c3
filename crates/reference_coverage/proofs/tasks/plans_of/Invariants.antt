use Rattle.std.proofs.Common.{◌≡◌, [], map, take}
use Rattle.std.specs.Option.{unwrap_or}
use Rattle.beas_core.specs.Guiding.{task_steps}
use Rattle.reference_coverage.proofs.tasks.plans_of.Given as goal

abbrev pub invariant-loop-task : goal.invariant-loop-task
invariant-loop-task l = l.plans ≡ map (λ task. record { steps = unwrap_or (task_steps task) [] }) (take l.task-index l.tasks)
