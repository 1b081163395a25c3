use Rattle.std.proofs.Common.{◌≡◌, ◌≤◌, None, drop, map}
use Rattle.std.specs.Option.{option_map}
use Rattle.constraint_miner.specs.Runs.{greatest_from}
use Rattle.constraint_miner.proofs.groups.greatest_run.Given as goal

-- the tuples that are left decide as all do
abbrev pub invariant-loop-tuple : goal.invariant-loop-tuple
invariant-loop-tuple g l =
    (greatest_from l.key l.fetched (option_map (λ before. g.T.Tuple.values before.now) l.before) l.size l.most
    (map g.T.Tuple.values (drop l.tuple-index l.tuples))
    ≡ greatest_from l.key l.fetched None 0 0 (map g.T.Tuple.values l.tuples))
    × (l.size ≤ l.tuple-index)
