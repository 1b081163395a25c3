-- Rows that are made a set stand in order.
use Rattle.std.proofs.Common.{◌≡◌, List, sym, subst}
use Rattle.beas_core.specs.Order.{row_cmp, row_cmp_total}
use Rattle.beas_core.specs.Sets.{IsInOrder, distinct}
use Rattle.beas_core.specs.Types.{Row}
use Rattle.beas_core.proofs.Sets.{IsInOrder-distinct}
use Rattle.beas_core.proofs.ValueOrder.{row_cmp_tells}

pub distinct_in_order : (rows sorted : List Row) → sorted ≡ distinct row_cmp rows → IsInOrder row_cmp sorted
distinct_in_order rows sorted e = subst (IsInOrder row_cmp) (sym e) (IsInOrder-distinct row_cmp_total row_cmp_tells rows)
