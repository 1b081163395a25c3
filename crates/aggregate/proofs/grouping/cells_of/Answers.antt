use Rattle.std.proofs.Common.{◌∙◌, ◌+◌, ap, sym, ◌++◌, ◌∷◌, [], take, get_or}
use Rattle.aggregate.specs.declared.cell.Fold.TheVariants.{Plain}
use Rattle.aggregate.specs.Grouping.{cell_of, cells_of, values_in}
use Rattle.aggregate.proofs.GroupFacts.{cells-more}
use Rattle.aggregate.proofs.grouping.cells_of.Goals as goal

pub loop-place-preserved : goal.loop-place-preserved
loop-place-preserved c =
    let keys = c.args.keys in
    let place = c.loop-place.place in
    let folds = c.args.folds.now in
    let group = c.args.group.now in
    c.in_ok-push.ensures.ok
    ∙ ap (λ cells. cells ++ c.in_ok-cell_of.field-0 ∷ []) c.loop-place.invariant
    ∙ ap (λ cell. cells_of keys (take place folds) group ++ cell ∷ [])
    (c.in_ok-cell_of.ensures
    ∙ ap (cell_of (get_or folds place Plain))
    (c.deref.ensures.value ∙ c.in_ok-values.ensures ∙ ap (λ n. values_in (n + place) group) c.from.ensures))
    ∙ sym (cells-more keys place folds group Plain c.loop-place-test.true)
