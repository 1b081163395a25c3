use Rattle.std.proofs.Common.{arith}
use Rattle.std.proofs.lemmas.List.Sorted.{length_permutation}
use Rattle.access_index.proofs.Sorting.{sorted_rows}
use Rattle.access_index.proofs.lending.lend_in_order.Goals as goal

pub returns-clause-rows : goal.returns-clause-rows
returns-clause-rows g c =
    sorted_rows (λ lent. lent.row.now) c.in_ok-lent.lent.items c.in_order.result.items c.args.rows.now c.in_order.ensures c.in_ok-lent.ensures.rows

pub returns-clause-few : goal.returns-clause-few
returns-clause-few g c = omega (arith, c.in_ok-lent.ensures.few, length_permutation c.in_ok-lent.lent.items c.in_order.result.items c.in_order.ensures)
