use Rattle.std.proofs.Common.{ap, ◌∙◌, map}
use Rattle.beas_core.specs.Groups.{project}
use Rattle.beas_core.specs.Coverage.{place_class}
use Rattle.plan_ops.specs.Over.{set_of}
use Rattle.plan_ops.specs.Places.{column_of}
use Rattle.plan_ops.proofs.MeetFacts.{picked_values}
use Rattle.plan_ops.proofs.RowFacts.{if_ok}
use Rattle.plan_ops.proofs.stages.output_of.Goals as goal

pub returns : goal.returns
returns c =
    let class = place_class c.args.block.now in
    let columns = c.deref.ensures.value ∙ c.in_ok-columns.ensures
    ∙ ap (map (λ p. column_of c.args.classes.now (class p))) c.as_slice.ensures in
    if_ok c.values_in.result (λ output h. h ∙ ap (λ cs. project cs c.args.row.now) columns
    ∙ picked_values (set_of c.args.block.now c.args.classes.now) c.args.classes.now class c.args.block.now.output c.args.row.now
    c.requires.classes c.requires.wide) c.values_in.ensures
