use Rattle.std.proofs.Common.{◌∙◌, ◌+◌, ℕ, [], ap}
use Rattle.access_index.proofs.Growing.{one_row_more}
use Rattle.access_index.proofs.index.AccessIndex.add_all.Goals as goal

pub loop-lent-preserved : goal.loop-lent-preserved
loop-lent-preserved c = record {
  index =
      one_row_more (λ lent. lent.row.now) c.args.rows.now c.loop-lent.lent-index c.lent-item.result c.loop-lent-test.true c.lent-item.is _ _ []
      c.in_ok-add.ensures.ok c.loop-lent.invariant.index;
  access = c.add.ensures.access ∙ c.loop-lent.invariant.access;
  total = c.in_ok-add.ensures.total ∙ ap (λ (n : ℕ). n + 1) c.loop-lent.invariant.total;
}
