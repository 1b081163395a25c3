use Rattle.std.proofs.Common.{◌≡◌, ◌++◌, ◌-◌}
use Rattle.constraint_miner.specs.Pairs.{columns_from}
use Rattle.constraint_miner.proofs.pairs.columns_below.Given as goal

-- the columns so far, and those that are left
abbrev pub invariant-loop-column : goal.invariant-loop-column
invariant-loop-column l = l.columns.items ++ columns_from l.column (l.width - l.column) ≡ columns_from 0 l.width
