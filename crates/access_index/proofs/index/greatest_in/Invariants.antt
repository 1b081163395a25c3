use Rattle.access_index.specs.Buckets.{IsBest}
use Rattle.access_index.proofs.index.greatest_in.Given as goal

abbrev pub invariant-loop-i : goal.invariant-loop-i
invariant-loop-i l = IsBest l.width l.bucket l.i l.best
