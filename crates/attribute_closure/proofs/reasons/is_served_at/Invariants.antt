use Rattle.std.proofs.Common.{◌≡◌, ◌==◌, ◌&&◌, false, take}
use Rattle.std.specs.List.{list_any}
use Rattle.beas_core.specs.Coverage.{serves}
use Rattle.attribute_closure.proofs.Listed.{use_of_access}
use Rattle.attribute_closure.proofs.reasons.is_served_at.Given as goal

abbrev pub invariant-loop-access : goal.invariant-loop-access
invariant-loop-access l = list_any (λ access. (access.table.0 == l.table.0) && serves l.block l.set (use_of_access l.atom access))
    (take l.access-index l.accesses) ≡ false
