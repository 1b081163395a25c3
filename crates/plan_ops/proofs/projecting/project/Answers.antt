use Rattle.std.proofs.Common.{◌∙◌, ap, map}
use Rattle.beas_core.specs.Order.{row_cmp}
use Rattle.beas_core.specs.Sets.{distinct}
use Rattle.beas_core.specs.Groups.{project}
use Rattle.beas_core.specs.Coverage.{place_class}
use Rattle.plan_ops.specs.Over.{bound_set}
use Rattle.plan_ops.specs.Places.{column_of}
use Rattle.plan_ops.proofs.MeetFacts.{all_picked}
use Rattle.plan_ops.proofs.projecting.project.Goals as goal

pub returns : goal.returns
returns c =
    let class = place_class c.args.block.now in
    let columns = c.deref.ensures.value ∙ c.in_ok-columns.ensures
    ∙ ap (λ cs. map (λ p. column_of cs (class p)) c.as_slice-2.result.now) c.as_slice.ensures
    ∙ ap (map (λ p. column_of c.args.from.now.classes (class p))) c.as_slice-2.ensures in
    c.from_vec.ensures ∙ c.in_ok-rows.ensures
    ∙ ap (λ cs. distinct row_cmp (map (project cs) c.as_slice-3.result.now)) columns
    ∙ ap (λ rs. distinct row_cmp (map (project (map (λ p. column_of c.args.from.now.classes (class p)) c.args.block.now.output)) rs)) c.as_slice-3.ensures
    ∙ ap (distinct row_cmp) (all_picked (bound_set c.args.block.now c.args.from.now) c.args.from.now.classes class c.args.block.now.output
    c.args.from.now.rows c.requires.classes_are c.requires.widths)
