use Rattle.std.proofs.Common.{◌≡◌}
use Rattle.partial_plan.specs.Scans.{sizes_of_tables}
use Rattle.partial_plan.specs.ScanPlans.{lists_after}
use Rattle.partial_plan.proofs.lists.fill.Given as goal

abbrev pub invariant-loop-number : goal.invariant-loop-number
invariant-loop-number l = l.lists ≡ lists_after l.catalogue (sizes_of_tables l.tables) l.query l.number
