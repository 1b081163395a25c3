use Rattle.std.proofs.Common.{◌≡◌, ◌+◌, ◌++◌, drop, map}
use Rattle.access_index.proofs.lending.lend_rows.Given as goal

-- the rows so far were lent, each for one step
abbrev pub invariant-loop-i : goal.invariant-loop-i
invariant-loop-i g l = (map (λ lent. lent.row.now) l.lent.items ++ drop l.i l.rows ≡ l.rows) × (l.steps ≡ l.initial.steps + l.i)
