use Rattle.plan_ops.proofs.HeldFacts.{step_holds}
use Rattle.plan_ops.proofs.asking.recall_constraint.Goals as goal

pub returns : goal.returns
returns g c =
    let rows = g.P.AccessPort.rows c.args.port.now in
    let accesses = g.P.AccessPort.accesses c.args.port.now in
    let asked = c.access-access.ensures in
    step_holds rows accesses c.args.step.now c.access-access.result.now asked.access asked.holds asked.bound
