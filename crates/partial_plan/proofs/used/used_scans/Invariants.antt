use Rattle.std.proofs.Common.{◌≡◌, take}
use Rattle.partial_plan.specs.ScanPlans.{used_scans}
use Rattle.partial_plan.proofs.used.used_scans.Given as goal

-- those of the lists so far
abbrev pub invariant-loop-list : goal.invariant-loop-list
invariant-loop-list l = l.scans ≡ used_scans (take l.list-index l.lists) l.plans
