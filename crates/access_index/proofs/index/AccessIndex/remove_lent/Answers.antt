use Rattle.std.proofs.Common.{◌∙◌, ◌+◌, ◌++◌, drop, map, subst}
use Rattle.access_index.specs.Index.{IsIndexOf}
use Rattle.access_index.proofs.Growing.{left_from}
use Rattle.access_index.proofs.index.AccessIndex.remove_lent.Goals as goal

pub loop-lent-preserved : goal.loop-lent-preserved
loop-lent-preserved c = record {
  access = c.remove.ensures.access ∙ c.loop-lent.invariant.access;
  rest = λ front is.
      let here = left_from (λ lent. lent.row.now) c.args.rows.now c.loop-lent.lent-index c.lent-item.result c.loop-lent-test.true c.lent-item.is in
      c.remove.ensures.rest front (drop (c.loop-lent.lent-index + 1) (map (λ lent. lent.row.now) c.args.rows.now))
      (subst (λ rs. IsIndexOf c.loop-lent.self (front ++ rs)) here (c.loop-lent.invariant.rest front is));
}
