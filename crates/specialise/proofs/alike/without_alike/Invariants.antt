use Rattle.std.proofs.Common.{take}
use Rattle.specialise.specs.Alike.{StandFor}
use Rattle.specialise.proofs.alike.without_alike.Given as goal

-- they stand for the first constraints
abbrev pub invariant-loop-access : goal.invariant-loop-access
invariant-loop-access l = StandFor l.few (take l.access-index l.accesses)
