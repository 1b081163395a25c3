use Rattle.std.proofs.Common.{All, subst}
use Rattle.std.proofs.lemmas.List.{take_all}
use Rattle.std.proofs.lemmas.List.Elements.{All-more}
use Rattle.plan_ops.specs.Held.{StepHolds, PlanHolds}
use Rattle.plan_ops.proofs.asking.ask_for_all.Goals as goal

pub loop-derivation-preserved : goal.loop-derivation-preserved
loop-derivation-preserved g c =
    let rows = g.P.AccessPort.rows c.args.port.now in
    let accesses = g.P.AccessPort.accesses c.args.port.now in
    let item = c.derivation-item.result in
    let held : PlanHolds rows accesses item = record { steps = subst (All (StepHolds rows accesses)) c.as_slice.ensures c.ask_for_steps.ensures } in
    All-more (PlanHolds rows accesses) c.args.derivations.now c.loop-derivation.derivation-index item c.loop-derivation-test.true c.loop-derivation.invariant
    (subst (PlanHolds rows accesses) c.derivation-item.is held)

pub returns : goal.returns
returns g c =
    let rows = g.P.AccessPort.rows c.args.port.now in
    let accesses = g.P.AccessPort.accesses c.args.port.now in
    subst (All (PlanHolds rows accesses)) (take_all c.loop-derivation.derivation-index c.args.derivations.now c.loop-derivation-test.false)
    c.loop-derivation.invariant
