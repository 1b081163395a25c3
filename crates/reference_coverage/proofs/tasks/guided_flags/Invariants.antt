use Rattle.std.proofs.Common.{◌≡◌, map, take}
use Rattle.beas_core.specs.Guiding.{is_guided_task}
use Rattle.reference_coverage.proofs.tasks.guided_flags.Given as goal

abbrev pub invariant-loop-task : goal.invariant-loop-task
invariant-loop-task l = l.guided ≡ map is_guided_task (take l.task-index l.tasks)
