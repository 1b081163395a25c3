use Rattle.std.proofs.Common.{◌≡◌, ◌<◌, ◌+◌, ℕ, true, get_or, []}
use Rattle.aggregate.specs.Runs.{same_key}
use Rattle.aggregate.proofs.grouping.run_length.Given as goal

abbrev pub invariant-loop-end : goal.invariant-loop-end
invariant-loop-end l = (i : ℕ) → i + 1 < l.end → same_key l.keys (get_or l.rows i []) (get_or l.rows (i + 1) []) ≡ true
