use Rattle.std.proofs.Common.{refl, subst}
use Rattle.std.specs.Prelude.{IfOk}
use Rattle.beas_core.specs.declared.plan.Normal.{Normal}
use Rattle.beas_core.specs.Classes.{normal_of}
use Rattle.plan_builder.specs.Parts.{normal_task}
use Rattle.plan_builder.proofs.FewTasks.{Planned, few_once, own_task, planned_too}
use Rattle.plan_builder.proofs.preparation.plan_among.Goals as goal

pub plan_normal-requires-clause-ids : goal.plan_normal-requires-clause-ids
plan_normal-requires-clause-ids c =
    few_once c.args.at.block.now c.args.catalogue.now.accesses c.args.at.extra.now c.in_ok-own.own c.requires.ids (c.if-not-are_few.ensures refl) c.in_ok-own.ensures

pub returns : goal.returns
returns c =
    let at = c.args.at in
    let own = c.in_ok-own.own in
    planned_too (normal_task (normal_of at.block.now) own at.has_guide) _
    (own_task at.block.now c.args.catalogue.now.accesses at.extra.now own c.requires.ids (c.if-not-are_few.ensures refl) c.in_ok-own.ensures at.has_guide) c.plan_normal.result
    (subst (λ (n : Normal). IfOk c.plan_normal.result (Planned (normal_task n own at.has_guide))) c.requires.normal c.plan_normal.ensures)
