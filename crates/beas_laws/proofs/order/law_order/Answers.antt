use Rattle.beas_core.specs.Order.{value_cmp_total, row_cmp_total}
use Rattle.beas_core.proofs.ValueOrder.{value_cmp_tells, row_cmp_tells}
use Rattle.beas_laws.proofs.order.law_order.Goals as goal

pub returns : goal.returns
returns c = record { values = value_cmp_total; rows = row_cmp_total; values_apart = value_cmp_tells; rows_apart = row_cmp_tells }
