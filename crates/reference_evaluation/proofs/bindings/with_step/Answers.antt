use Rattle.std.proofs.Common.{◌≡◌, ◌++◌, List, map, ◌∙◌}
use Rattle.std.specs.List.{flat_map}
use Rattle.std.proofs.lemmas.Result.{IfOk-weaker}
use Rattle.beas_core.specs.Types.{Bindings}
use Rattle.reference_evaluation.specs.Tables.{rows_in}
use Rattle.reference_evaluation.proofs.Ways.{with_step_is}
use Rattle.reference_evaluation.proofs.bindings.with_step.Goals as goal

pub returns : goal.returns
returns c =
    let block = c.args.block.now in
    let fetched = c.as_slice.result.now in
    IfOk-weaker _ _ _ (λ (ways : List Bindings) (h : ways ≡ flat_map (λ way. map (λ row. way ++ row) fetched) c.args.found.now).
    with_step_is (rows_in block.tables.now) block.normal.now block.accesses.now c.args.found.now c.args.step.now fetched ways
    (c.as_slice.ensures ∙ c.in_ok-fetched.ensures) h) c.with_each_row.ensures
