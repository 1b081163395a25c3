use Rattle.std.proofs.Common.{sym, ◌∙◌, ap, ◌++◌, ◌∷◌, [], arith}
use Rattle.std.proofs.lemmas.Result.{err_from_is_err_and}
use Rattle.name_resolution.specs.Binding.{number_refusals}
use Rattle.binder.proofs.RowFacts.{row_to}
use Rattle.name_resolution.proofs.FirstFacts.{from_start, next_ok, err_next, at_end}
use Rattle.binder.proofs.rows.bound_row.Goals as goal

pub loop-literal-init : goal.loop-literal-init
loop-literal-init c = record { so_far = c.new-row.ensures; in_range = from_start number_refusals c.args.literals.now }

pub returns-in_err-literal_value-clause-refused : goal.returns-in_err-literal_value-clause-refused
returns-in_err-literal_value-clause-refused c = let p = err_from_is_err_and c.from_residual.result c.from_residual.ensures.1 in rw (p.1, p.2)
    (err_next (Unit {0})
    (Unit {0}) _ number_refusals c.args.literals.now c.loop-literal.literal-index c.literal-item.result c.loop-literal.invariant.in_range
    c.loop-literal-test.true c.literal-item.is c.in_err-literal_value.ensures.refused)

pub loop-literal-preserved : goal.loop-literal-preserved
loop-literal-preserved c = record {
  so_far = c.in_ok-push.ensures.ok ∙ ap (λ row. row ++ c.in_ok-literal_value.field-0 ∷ []) c.loop-literal.invariant.so_far
      ∙ row_to c.args.literals.now c.loop-literal.literal-index c.literal-item.result c.in_ok-literal_value.field-0 c.loop-literal-test.true
      c.literal-item.is c.in_ok-literal_value.ensures.value;
  in_range = sym
      (next_ok number_refusals c.args.literals.now c.loop-literal.literal-index c.literal-item.result c.loop-literal-test.true c.literal-item.is
      c.in_ok-literal_value.ensures.refused) ∙ c.loop-literal.invariant.in_range;
}

pub returns-clause-refused : goal.returns-clause-refused
returns-clause-refused c = sym c.loop-literal.invariant.in_range ∙ at_end number_refusals c.args.literals.now c.loop-literal.literal-index (omega arith)
