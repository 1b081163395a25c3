use Rattle.std.proofs.Common.{rules, ◌++◌}
use Rattle.std.specs.Ordering.{is_lt}
use Rattle.std.proofs.lemmas.Fn.{always_returns_same}
use Rattle.std.proofs.lemmas.List.MinMax.{ranks_by}
use Rattle.beas_core.specs.Order.{row_cmp_total}
use Rattle.beas_core.specs.Groups.{project}
use Rattle.constraint_miner.specs.Runs.{tuple_cmp}
use Rattle.constraint_miner.proofs.tuples.sort_tuples.Goals as goal

pub returns-clause-sorted : goal.returns-clause-sorted
returns-clause-sorted g c =
    c.sort_unstable_by.ensures.sorted (λ a b. is_lt (tuple_cmp c.args.key.now c.args.fetched.now (g.T.Tuple.values a) (g.T.Tuple.values b)))
    (ranks_by row_cmp_total (λ tuple. project (c.args.key.now ++ c.args.fetched.now) (g.T.Tuple.values tuple)))
    (always_returns_same _ _ _ (λ a r f k. search rules))
