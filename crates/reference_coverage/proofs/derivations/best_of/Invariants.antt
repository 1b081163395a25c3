use Rattle.std.proofs.Common.{◌≡◌, nat_lt, take}
use Rattle.std.specs.List.{best_of}
use Rattle.reference_coverage.proofs.derivations.best_of.Given as goal

abbrev pub invariant-loop-other : goal.invariant-loop-other
invariant-loop-other l = l.best ≡ best_of (λ v w. nat_lt v.access.bound w.access.bound) l.fn.first (take l.other-index l.others)
