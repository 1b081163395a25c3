use Rattle.std.proofs.Common.{◌≡◌, drop}
use Rattle.partial_plan.specs.ScanPlans.{is_used}
use Rattle.partial_plan.proofs.used.is_used.Given as goal

abbrev pub invariant-loop-plan : goal.invariant-loop-plan
invariant-loop-plan l = is_used l.plans l.scan ≡ is_used (drop l.plan-index l.plans) l.scan
