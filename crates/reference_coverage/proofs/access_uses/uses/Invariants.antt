use Rattle.std.proofs.Common.{◌≡◌, ◌==◌, map, take}
use Rattle.std.specs.List.{filter, flat_map, enumerate_from}
use Rattle.reference_coverage.proofs.access_uses.uses.Given as goal

abbrev pub invariant-loop-number : goal.invariant-loop-number
invariant-loop-number l = l.found ≡ flat_map (λ a. map (λ access. record { atom = a.0; access = access })
    (filter (λ access. access.table.0 == a.1.table.0) l.accesses)) (take l.number (enumerate_from 0 l.normal.atoms))
