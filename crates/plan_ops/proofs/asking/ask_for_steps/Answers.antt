use Rattle.std.proofs.Common.{All, false, subst}
use Rattle.std.proofs.lemmas.List.{take_all}
use Rattle.std.proofs.lemmas.List.Elements.{All-more}
use Rattle.beas_core.specs.declared.plan.DStep.{DStep}
use Rattle.plan_ops.specs.Held.{StepHolds}
use Rattle.plan_ops.proofs.asking.ask_for_steps.Goals as goal

pub loop-step-preserved : goal.loop-step-preserved
loop-step-preserved g c =
    let rows = g.P.AccessPort.rows c.args.port.now in
    let accesses = g.P.AccessPort.accesses c.args.port.now in
    let none : DStep = record { atom = 0; access = record { 0 = 0 }; adds = false } in
    All-more (StepHolds rows accesses) c.args.steps.now c.loop-step.step-index none c.loop-step-test.true c.loop-step.invariant
    c.recall_constraint.ensures

pub returns : goal.returns
returns g c =
    let rows = g.P.AccessPort.rows c.args.port.now in
    let accesses = g.P.AccessPort.accesses c.args.port.now in
    subst (All (StepHolds rows accesses)) (take_all c.loop-step.step-index c.args.steps.now c.loop-step-test.false) c.loop-step.invariant
