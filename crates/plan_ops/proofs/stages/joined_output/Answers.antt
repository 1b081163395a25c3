use Rattle.std.proofs.Common.{ap, ◌∙◌}
use Rattle.beas_core.specs.Groups.{project}
use Rattle.plan_ops.specs.Joins.{joined_by}
use Rattle.plan_ops.proofs.RowFacts.{if_ok, output_made}
use Rattle.plan_ops.proofs.stages.joined_output.Goals as goal

pub returns : goal.returns
returns c = λ normal is pair. if_ok c.output_values.result (λ output h.
    h ∙ ap (λ cs. project cs (joined_by c.args.stage.now.join.sources.items c.args.row.now c.args.tuple.now)) c.output.ensures
    ∙ output_made normal c.args.stage.now is c.args.row.now c.args.tuple.now pair) c.output_values.ensures
