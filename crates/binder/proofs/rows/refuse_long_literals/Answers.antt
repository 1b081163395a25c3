use Rattle.std.proofs.Common.{sym, ◌∙◌, arith}
use Rattle.std.proofs.lemmas.Result.{err_from_is_err_and}
use Rattle.name_resolution.specs.Binding.{text_refusals}
use Rattle.name_resolution.proofs.FirstFacts.{from_start, next_ok, err_next, at_end}
use Rattle.binder.proofs.rows.refuse_long_literals.Goals as goal

pub loop-literal-init : goal.loop-literal-init
loop-literal-init c = from_start (text_refusals c.args.limit) c.args.literals.now

pub returns-in_err-refuse_long_literal : goal.returns-in_err-refuse_long_literal
returns-in_err-refuse_long_literal c = let p = err_from_is_err_and c.from_residual.result c.from_residual.ensures.1 in rw (p.1, p.2)
    (err_next (Unit {0}) (Unit {0}) _
    (text_refusals c.args.limit) c.args.literals.now c.loop-literal.literal-index c.literal-item.result c.loop-literal.invariant c.loop-literal-test.true
    c.literal-item.is c.in_err-refuse_long_literal.ensures)

pub loop-literal-preserved : goal.loop-literal-preserved
loop-literal-preserved c = sym (next_ok
    (text_refusals c.args.limit) c.args.literals.now c.loop-literal.literal-index c.literal-item.result c.loop-literal-test.true c.literal-item.is
    c.in_ok-refuse_long_literal.ensures) ∙ c.loop-literal.invariant

pub returns : goal.returns
returns c = sym c.loop-literal.invariant ∙ at_end (text_refusals c.args.limit) c.args.literals.now c.loop-literal.literal-index (omega arith)
