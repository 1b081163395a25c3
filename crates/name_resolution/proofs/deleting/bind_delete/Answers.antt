use Rattle.std.proofs.Common.{◌<◌, ◌^◌, length, ap, ◌∙◌, sym, subst}
use Rattle.std.proofs.lemmas.Result.{err_from_is_err_and, IfOk-weaker}
use Rattle.name_resolution.specs.declared.meaning.LookedUp.{LookedUp}
use Rattle.name_resolution.specs.Binding.{delete_block, delete_refusals, bound_delete, places_of_kinds, delete_kinds}
use Rattle.name_resolution.specs.LookedUp.{looked_up, bound_block, BlockIsSmall}
use Rattle.name_resolution.specs.Refusing.{first, table_refusals}
use Rattle.name_resolution.proofs.DeleteFacts.{delete_small, delete_few}
use Rattle.beas_core.specs.Results.{IsRefusedAs}
use Rattle.beas_core.specs.Shapes.{BlockIsWellFormed}
use Rattle.name_resolution.proofs.WellFormed.{delete_fits}
use Rattle.name_resolution.proofs.OverTables.{delete_over, delete_one}
use Rattle.catalogue.specs.Queries.{BlockIsOver}
use Rattle.beas_core.specs.declared.query.Block.{Block}
use Rattle.name_resolution.proofs.FirstFacts.{err_first, first_none}
use Rattle.name_resolution.proofs.deleting.bind_delete.Goals as goal

pub returns-in_err-want_table-clause-refused : goal.returns-in_err-want_table-clause-refused
unfolding delete_refusals
returns-in_err-want_table-clause-refused c = let p = err_from_is_err_and c.from_residual.result c.from_residual.ensures.1 in rw (p.1, p.2)
    (err_first (Unit {0}) (Unit {0}) _ (table_refusals c.args.catalogue.now c.args.table.now) _ c.in_err-want_table.ensures)

pub bound_if_sound-requires-clause-few : goal.bound_if_sound-requires-clause-few
bound_if_sound-requires-clause-few c =
    let is = c.in_ok-block.ensures.block ∙ ap (λ cs. looked_up c.args.catalogue.now (delete_block c.args.table.now cs)) c.as_slice.ensures in
    subst (λ (b : LookedUp). length b.conditions < 2 ^ 32) (sym is) (delete_few c.args.catalogue.now c.args.table.now c.args.conditions.now c.requires)

pub bound_if_sound-requires-clause-small : goal.bound_if_sound-requires-clause-small
bound_if_sound-requires-clause-small c =
    let is = c.in_ok-block.ensures.block ∙ ap (λ cs. looked_up c.args.catalogue.now (delete_block c.args.table.now cs)) c.as_slice.ensures in
    subst BlockIsSmall (sym is) (delete_small c.args.catalogue.now c.args.table.now c.args.conditions.now c.recall_soundness.ensures)

pub returns-clause-refused : goal.returns-clause-refused
unfolding delete_refusals
returns-clause-refused c =
    let is = c.in_ok-block.ensures.block ∙ ap (λ cs. looked_up c.args.catalogue.now (delete_block c.args.table.now cs)) c.as_slice.ensures in
    subst (IsRefusedAs c.bound_if_sound.result)
    (sym (first_none (table_refusals c.args.catalogue.now c.args.table.now) _ c.in_ok-want_table.ensures
    ∙ ap (λ block. first (places_of_kinds c.args.limits.now block delete_kinds)) (sym is)))
    c.bound_if_sound.ensures.refused

pub returns-clause-block : goal.returns-clause-block
unfolding bound_delete
returns-clause-block c =
    let is = c.in_ok-block.ensures.block ∙ ap (λ cs. looked_up c.args.catalogue.now (delete_block c.args.table.now cs)) c.as_slice.ensures in
    IfOk-weaker c.bound_if_sound.result _ _ (λ bound made. made ∙ ap bound_block is) c.bound_if_sound.ensures.block

pub returns-clause-well_formed : goal.returns-clause-well_formed
returns-clause-well_formed c =
    let is = c.in_ok-block.ensures.block ∙ ap (λ cs. looked_up c.args.catalogue.now (delete_block c.args.table.now cs)) c.as_slice.ensures in
    IfOk-weaker c.bound_if_sound.result _ _ (λ bound made. subst BlockIsWellFormed (sym (made ∙ ap bound_block is))
    (delete_fits c.args.catalogue.now c.args.table.now c.args.conditions.now c.recall_soundness.ensures c.in_ok-want_table.ensures))
    c.bound_if_sound.ensures.block

pub returns-clause-over : goal.returns-clause-over
returns-clause-over c =
    let is = c.in_ok-block.ensures.block ∙ ap (λ cs. looked_up c.args.catalogue.now (delete_block c.args.table.now cs)) c.as_slice.ensures in
    IfOk-weaker c.bound_if_sound.result _ _ (λ bound made. subst (BlockIsOver c.args.catalogue.now) (sym (made ∙ ap bound_block is))
    (delete_over c.args.catalogue.now c.args.table.now c.args.conditions.now c.in_ok-want_table.ensures))
    c.bound_if_sound.ensures.block

pub returns-clause-one : goal.returns-clause-one
returns-clause-one c =
    let is = c.in_ok-block.ensures.block ∙ ap (λ cs. looked_up c.args.catalogue.now (delete_block c.args.table.now cs)) c.as_slice.ensures in
    IfOk-weaker c.bound_if_sound.result _ _ (λ bound made. ap (λ (b : Block). length b.atoms) (made ∙ ap bound_block is)
    ∙ delete_one c.args.catalogue.now c.args.table.now c.args.conditions.now)
    c.bound_if_sound.ensures.block
