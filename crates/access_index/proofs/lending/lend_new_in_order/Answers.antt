use Rattle.std.proofs.Common.{◌∙◌, arith}
use Rattle.std.proofs.lemmas.List.{take_all}
use Rattle.access_index.proofs.Sorting.{sorted_rows}
use Rattle.access_index.proofs.lending.lend_new_in_order.Goals as goal

pub returns : goal.returns
returns c =
    sorted_rows (λ lent. lent.row.now) c.loop-row.lent.items c.in_order.result.items c.args.rows.now c.in_order.ensures
    (c.loop-row.invariant ∙ take_all c.loop-row.row-index c.args.rows.now (omega (arith, c.loop-row-test.false)))
