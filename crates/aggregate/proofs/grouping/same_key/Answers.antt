use Rattle.aggregate.proofs.GroupFacts.{same-keys}
use Rattle.aggregate.proofs.grouping.same_key.Goals as goal

pub returns : goal.returns
returns c =
    same-keys c.args.keys c.from.result c.from-2.result c.args.row.now c.args.other.now c.as_slice.result.now c.as_slice-2.result.now c.eq.result
    c.from.ensures c.from-2.ensures c.as_slice.ensures c.as_slice-2.ensures c.eq.ensures
