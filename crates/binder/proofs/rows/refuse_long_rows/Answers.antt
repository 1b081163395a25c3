use Rattle.std.proofs.Common.{sym, ◌∙◌, arith}
use Rattle.std.specs.List.{flat_map}
use Rattle.std.proofs.lemmas.Result.{err_from_is_err_and}
use Rattle.name_resolution.specs.Binding.{text_refusals}
use Rattle.name_resolution.proofs.FirstFacts.{from_start, next_ok, err_next, at_end}
use Rattle.binder.proofs.rows.refuse_long_rows.Goals as goal

pub loop-row-init : goal.loop-row-init
loop-row-init c = from_start (flat_map (text_refusals c.args.limit)) c.args.rows.now

pub returns-in_err-refuse_long_literals : goal.returns-in_err-refuse_long_literals
returns-in_err-refuse_long_literals c = let p = err_from_is_err_and c.from_residual.result c.from_residual.ensures.1 in rw (p.1, p.2)
    (err_next (Unit {0}) (Unit {0}) _ (flat_map
    (text_refusals c.args.limit)) c.args.rows.now c.loop-row.row-index c.row-item.result c.loop-row.invariant c.loop-row-test.true c.row-item.is
    (rw c.as_slice.ensures at c.in_err-refuse_long_literals.ensures))

pub loop-row-preserved : goal.loop-row-preserved
loop-row-preserved c = sym (next_ok (flat_map
    (text_refusals c.args.limit)) c.args.rows.now c.loop-row.row-index c.row-item.result c.loop-row-test.true c.row-item.is
    (rw c.as_slice.ensures at c.in_ok-refuse_long_literals.ensures)) ∙ c.loop-row.invariant

pub returns : goal.returns
returns c = sym c.loop-row.invariant ∙ at_end (flat_map (text_refusals c.args.limit)) c.args.rows.now c.loop-row.row-index (omega arith)
