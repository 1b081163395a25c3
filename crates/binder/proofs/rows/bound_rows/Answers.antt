use Rattle.std.proofs.Common.{sym, ◌∙◌, ap, ◌++◌, ◌∷◌, [], take, arith}
use Rattle.std.specs.List.{flat_map}
use Rattle.std.proofs.lemmas.List.{map_more}
use Rattle.std.proofs.lemmas.Result.{err_from_is_err_and}
use Rattle.name_resolution.specs.Binding.{number_refusals, bound_row, bound_rows}
use Rattle.name_resolution.proofs.FirstFacts.{from_start, next_ok, err_next, at_end}
use Rattle.binder.proofs.rows.bound_rows.Goals as goal

pub loop-row-init : goal.loop-row-init
loop-row-init c = record { so_far = c.new-all.ensures; in_range = from_start (flat_map number_refusals) c.args.rows.now }

pub returns-in_err-bound_row-clause-refused : goal.returns-in_err-bound_row-clause-refused
returns-in_err-bound_row-clause-refused c = let p = err_from_is_err_and c.from_residual.result c.from_residual.ensures.1 in rw (p.1, p.2)
    (err_next (Unit {0}) (Unit {0}) _
    (flat_map number_refusals) c.args.rows.now c.loop-row.row-index c.row-item.result c.loop-row.invariant.in_range c.loop-row-test.true c.row-item.is
    (rw c.as_slice.ensures at c.in_err-bound_row.ensures.refused))

pub loop-row-preserved : goal.loop-row-preserved
loop-row-preserved c = record {
  so_far = c.in_ok-push.ensures.ok ∙ ap (λ bound. bound ++ c.in_ok-bound_row.field-0 ∷ []) c.loop-row.invariant.so_far
      ∙ ap (λ row. bound_rows (take c.loop-row.row-index c.args.rows.now) ++ row ∷ []) (c.in_ok-bound_row.ensures.row ∙ ap bound_row (c.as_slice.ensures
      ∙ c.row-item.is)) ∙ sym (map_more bound_row c.args.rows.now c.loop-row.row-index c.row-item.result c.loop-row-test.true);
  in_range = sym (next_ok (flat_map number_refusals) c.args.rows.now c.loop-row.row-index c.row-item.result c.loop-row-test.true c.row-item.is
      (rw c.as_slice.ensures at c.in_ok-bound_row.ensures.refused)) ∙ c.loop-row.invariant.in_range;
}

pub returns-clause-refused : goal.returns-clause-refused
returns-clause-refused c = sym c.loop-row.invariant.in_range ∙ at_end (flat_map number_refusals) c.args.rows.now c.loop-row.row-index (omega arith)
