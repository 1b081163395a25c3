use Rattle.std.proofs.Common.{◌≡◌, ◌++◌, drop, map}
use Rattle.std.specs.List.{filter_map, flat_map}
use Rattle.constraint_miner.specs.Pairs.{pair_in}
use Rattle.constraint_miner.proofs.pairs.pairs_of.Given as goal

-- the pairs so far, and those of the first columns that are left
abbrev pub invariant-loop-first : goal.invariant-loop-first
invariant-loop-first l =
    l.found.items ++ flat_map (λ first. filter_map (pair_in (map (λ row. row.now) l.rows) l.limit first) l.columns) (drop l.first-index l.columns)
    ≡ flat_map (λ first. filter_map (pair_in (map (λ row. row.now) l.rows) l.limit first) l.columns) l.columns
