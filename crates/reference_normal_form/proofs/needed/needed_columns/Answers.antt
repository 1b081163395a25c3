use Rattle.std.proofs.Common.{◌∙◌, ◌++◌, ◌∷◌, [], ℕ, Bool, cond, ap, sym}
use Rattle.std.specs.List.{list_any}
use Rattle.beas_core.specs.declared.schema.ColumnId.{ColumnId}
use Rattle.beas_core.specs.Classes.{same_place, used_places}
use Rattle.reference_normal_form.proofs.ListSteps.{filter_map_step}
use Rattle.reference_normal_form.proofs.needed.needed_columns.Goals as goal

pub loop-column-preserved : goal.loop-column-preserved
loop-column-preserved c =
    let stands : ℕ → Bool = λ c'. list_any (same_place (record { atom = c.args.atom; column = record { 0 = c' } })) (used_places c.args.block.now) in
    c.in_ok-push_needed.ensures
    ∙ ap (λ cs. cs ++ cond (stands c.loop-column.column) ((record { 0 = c.loop-column.column }) ∷ []) []) c.loop-column.invariant
    ∙ sym (filter_map_step {A = ColumnId} (λ c'. record { 0 = c' }) stands c.loop-column.column)
