use Rattle.std.proofs.Common.{sym, refl, ◌∙◌}
use Rattle.sql_text.proofs.Columns.{one_more_column, all_columns}
use Rattle.sql_text.proofs.grouping.columns_of.Goals as goal

pub loop-item-init : goal.loop-item-init
loop-item-init c = rw (c.in_ok-columns.ensures, c.as_slice-item-items.ensures) refl

pub loop-item-preserved : goal.loop-item-preserved
loop-item-preserved c =
    one_more_column c.loop-item.columns c.push.new.self c.as_slice-item-items.result.now c.loop-item.item-index c.item-item.result c.in_ok-copy.field-0
    c.item-item.is c.loop-item-test.true (c.in_ok-copy.ensures ∙ c.column.ensures) c.in_ok-push.ensures.ok
    ∙ c.loop-item.invariant

pub returns : goal.returns
returns c = sym (all_columns c.loop-item.columns c.as_slice-item-items.result.now c.loop-item.item-index c.loop-item-test.false) ∙ c.loop-item.invariant
