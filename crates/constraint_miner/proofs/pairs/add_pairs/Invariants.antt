use Rattle.std.proofs.Common.{◌≡◌, ◌++◌, drop, map}
use Rattle.std.specs.List.{filter_map}
use Rattle.constraint_miner.specs.Pairs.{pair_in}
use Rattle.constraint_miner.proofs.pairs.add_pairs.Given as goal

-- the pairs so far, and those of the columns that are left
abbrev pub invariant-loop-second : goal.invariant-loop-second
invariant-loop-second l =
    l.found.items ++ filter_map (pair_in (map (λ row. row.now) l.rows) l.limit l.first) (drop l.second-index l.columns)
    ≡ l.fn.found.items ++ filter_map (pair_in (map (λ row. row.now) l.rows) l.limit l.first) l.columns
