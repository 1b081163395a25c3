use Rattle.access_index.proofs.Sorting.{index_of_lent}
use Rattle.access_index.proofs.index.AccessIndex.build.Goals as goal

pub returns-clause-index : goal.returns-clause-index
returns-clause-index g c =
    index_of_lent (λ lent. lent.row.now) _ c.in_ok-lent.lent.items c.as_slice-2.result.now c.args.rows.now c.in_ok-lent.ensures.rows c.as_slice-2.ensures.value
    c.in_ok-add_all.ensures.index
