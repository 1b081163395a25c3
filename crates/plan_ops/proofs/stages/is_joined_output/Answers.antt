use Rattle.std.proofs.Common.{◌∙◌, ap, sym}
use Rattle.beas_core.specs.Groups.{project}
use Rattle.plan_ops.specs.Joins.{joined_by}
use Rattle.plan_ops.proofs.RowFacts.{output_made}
use Rattle.plan_ops.proofs.stages.is_joined_output.Goals as goal

pub returns : goal.returns
returns c = λ normal is pair.
    let joined = joined_by c.args.stage.now.join.sources.items c.args.row.now c.args.tuple.now in
    let made = ap (λ cs. project cs joined) c.output.ensures ∙ output_made normal c.args.stage.now is c.args.row.now c.args.tuple.now pair in (
      λ t. c.has_values.ensures.0 t ∙ made,
      λ e. c.has_values.ensures.1 (e ∙ sym made),
    )
