use Rattle.std.proofs.Common.{◌≡◌, ◌++◌, ◌==◌, map, take}
use Rattle.std.specs.List.{filter}
use Rattle.reference_coverage.proofs.access_uses.push_uses.Given as goal

abbrev pub invariant-loop-access : goal.invariant-loop-access
invariant-loop-access l = l.found ≡ l.initial.found ++ map (λ access. record { atom = l.number; access = access })
    (filter (λ access. access.table.0 == l.atom.table.0) (take l.access-index l.accesses))
