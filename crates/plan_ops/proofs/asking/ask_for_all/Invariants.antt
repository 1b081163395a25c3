use Rattle.std.proofs.Common.{All, take}
use Rattle.plan_ops.specs.Held.{PlanHolds}
use Rattle.plan_ops.proofs.asking.ask_for_all.Given as goal

abbrev pub invariant-loop-derivation : goal.invariant-loop-derivation
invariant-loop-derivation g l = All (PlanHolds (g.P.AccessPort.rows l.port) (g.P.AccessPort.accesses l.port)) (take l.derivation-index l.derivations)
