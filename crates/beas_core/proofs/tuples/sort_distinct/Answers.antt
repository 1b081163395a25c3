use Rattle.beas_core.proofs.DistinctRows.{distinct_from_sort}
use Rattle.beas_core.proofs.tuples.sort_distinct.Goals as goal

pub returns : goal.returns
returns c = distinct_from_sort c.args.rows.items c.sort_unstable.new.self.items c.dedup.new.self.items c.sort_unstable.ensures.permutation
    c.sort_unstable.ensures.sorted c.dedup.ensures.filtered
