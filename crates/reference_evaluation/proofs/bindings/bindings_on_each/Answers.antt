use Rattle.std.proofs.Common.{◌++◌, ◌∷◌, [], ◌∙◌, ap, map, sym, take}
use Rattle.std.proofs.lemmas.List.{map_more}
use Rattle.beas_core.specs.Types.{Row, Bindings}
use Rattle.beas_core.specs.Coverage.{class_at}
use Rattle.beas_core.specs.Groups.{value_at}
use Rattle.reference_evaluation.proofs.bindings.bindings_on_each.Goals as goal

pub loop-row-preserved : goal.loop-row-preserved
loop-row-preserved c =
    let on : Row → Bindings = λ row. map (λ column. (class_at c.args.normal.now c.args.atom column, value_at row column)) c.args.columns.now in
    let before = map on (take c.loop-row.row-index c.args.rows.now) in
    c.in_ok-push.ensures.ok
    ∙ ap (λ all. all ++ c.in_ok-bindings_on.field-0 ∷ []) c.loop-row.invariant
    ∙ ap (λ bindings. before ++ bindings ∷ []) (c.in_ok-bindings_on.ensures ∙ ap on (c.as_slice.ensures ∙ c.row-item.is))
    ∙ sym (map_more on c.args.rows.now c.loop-row.row-index c.row-item.result c.loop-row-test.true)
