use Rattle.std.proofs.Common.{◌∙◌, ◌+◌, ℕ, [], ap}
use Rattle.code_index.specs.Reading.{read_index}
use Rattle.word_index.specs.Widths.{index_in}
use Rattle.word_index.proofs.RowFacts.{row_more}
use Rattle.code_index.proofs.SpellingFacts.{kept_twice}
use Rattle.word_index.proofs.bulk.add_all.Goals as goal

pub loop-lent-preserved : goal.loop-lent-preserved
loop-lent-preserved c = record {
  kept = kept_twice c.args.codes.now c.loop-lent.codes c.add_row.new.codes c.loop-lent.invariant.kept c.add_row.ensures.kept;
  access = c.add_row.ensures.access ∙ c.loop-lent.invariant.access;
  total = c.in_ok-add_row.ensures.total ∙ ap (λ (n : ℕ). n + 1) c.loop-lent.invariant.total;
  in_order = c.add_row.ensures.in_order;
  index =
      row_more (λ lent. lent.row.now) c.args.rows.now c.loop-lent.lent-index c.lent-item.result c.as_slice.result.now c.loop-lent-test.true c.lent-item.is
      c.as_slice.ensures (read_index c.loop-lent.codes (index_in c.loop-lent.index)) (read_index c.add_row.new.codes (index_in c.add_row.new.index)) []
      c.in_ok-add_row.ensures.ok c.loop-lent.invariant.index;
}
