use Rattle.std.proofs.Common.{◌≡◌}
use Rattle.plan_ops.proofs.JoinFacts.{checks_upto}
use Rattle.plan_ops.proofs.joining.checks_of.Given as goal

abbrev pub invariant-loop-at : goal.invariant-loop-at
invariant-loop-at l = l.checks.items ≡ checks_upto l.fn.known l.joined l.at
