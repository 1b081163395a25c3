use Rattle.std.proofs.Common.{All, take}
use Rattle.plan_ops.specs.Held.{StepHolds}
use Rattle.plan_ops.proofs.asking.ask_for_steps.Given as goal

abbrev pub invariant-loop-step : goal.invariant-loop-step
invariant-loop-step g l = All (StepHolds (g.P.AccessPort.rows l.port) (g.P.AccessPort.accesses l.port)) (take l.step-index l.steps)
