use Rattle.std.proofs.Common.{◌≡◌, ◌++◌}
use Rattle.reference_coverage.proofs.lists.append.Given as goal

abbrev pub invariant-loop-item : goal.invariant-loop-item
invariant-loop-item g l = l.all ≡ l.initial.all ++ l.yielded
