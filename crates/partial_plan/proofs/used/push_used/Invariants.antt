use Rattle.std.proofs.Common.{◌≡◌, ◌++◌, take, filter}
use Rattle.partial_plan.specs.ScanPlans.{is_used}
use Rattle.partial_plan.proofs.used.push_used.Given as goal

-- of the scans so far those that a step uses
abbrev pub invariant-loop-scan : goal.invariant-loop-scan
invariant-loop-scan l = l.scans ≡ l.initial.scans ++ filter (is_used l.plans) (take l.scan-index l.list)
