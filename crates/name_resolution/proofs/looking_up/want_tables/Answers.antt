use Rattle.std.proofs.Common.{sym, ◌∙◌, arith}
use Rattle.std.proofs.lemmas.Result.{err_from_is_err_and}
use Rattle.name_resolution.specs.Refusing.{table_refusals}
use Rattle.name_resolution.proofs.FirstFacts.{from_start, next_ok, err_next, at_end}
use Rattle.name_resolution.proofs.looking_up.want_tables.Goals as goal

pub loop-item-init : goal.loop-item-init
loop-item-init c = from_start (λ item. table_refusals c.args.catalogue.now item.table) c.args.items.now

pub returns-in_err-want_table : goal.returns-in_err-want_table
returns-in_err-want_table c = let p = err_from_is_err_and c.from_residual.result c.from_residual.ensures.1 in rw (p.1, p.2)
    (err_next (Unit {0}) (Unit {0}) _
    (λ item. table_refusals c.args.catalogue.now item.table) c.args.items.now c.loop-item.item-index c.item-item.result c.loop-item.invariant
    c.loop-item-test.true c.item-item.is c.in_err-want_table.ensures)

pub loop-item-preserved : goal.loop-item-preserved
loop-item-preserved c = sym (next_ok
    (λ item. table_refusals c.args.catalogue.now item.table) c.args.items.now c.loop-item.item-index c.item-item.result c.loop-item-test.true c.item-item.is
    c.in_ok-want_table.ensures)
    ∙ c.loop-item.invariant

pub returns : goal.returns
returns c = sym c.loop-item.invariant ∙ at_end (λ item. table_refusals c.args.catalogue.now item.table) c.args.items.now c.loop-item.item-index (omega arith)
