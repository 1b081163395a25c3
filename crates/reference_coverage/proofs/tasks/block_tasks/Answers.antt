use Rattle.std.proofs.Common.{◌∙◌, ap, false, length, sym}
use Rattle.std.proofs.lemmas.List.Elements.{All-same}
use Rattle.reference_coverage.specs.Tasks.{HasFewAtoms, tasks_with}
use Rattle.reference_coverage.proofs.TaskFacts.{few_tasks, length_tasks, same_tasks}
use Rattle.reference_coverage.proofs.tasks.block_tasks.Goals as goal

pub returns-clause-tasks : goal.returns-clause-tasks
returns-clause-tasks c = c.in_ok-tasks.ensures ∙ sym (same_tasks c.args.accesses.now 0 false c.args.query.now)

pub returns-clause-few : goal.returns-clause-few
returns-clause-few c =
    All-same HasFewAtoms c.in_ok-tasks.tasks (tasks_with c.args.accesses.now false c.args.query.now) c.in_ok-tasks.ensures
    (few_tasks c.args.accesses.now false c.args.query.now c.requires)

pub returns-clause-len : goal.returns-clause-len
returns-clause-len c = ap length c.in_ok-tasks.ensures ∙ length_tasks c.args.accesses.now false c.args.query.now
