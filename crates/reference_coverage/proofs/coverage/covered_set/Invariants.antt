use Rattle.std.proofs.Common.{◌≡◌}
use Rattle.beas_core.specs.Coverage.{grow_times}
use Rattle.reference_coverage.proofs.coverage.covered_set.Given as goal

abbrev pub invariant-loop-turn : goal.invariant-loop-turn
invariant-loop-turn l = l.set ≡ grow_times l._turn l.normal l.accesses l.start
