use Rattle.std.proofs.Common.{◌≡◌, ◌+◌, ◌∙◌, ap, sym, subst, append_assoc, ◌++◌, ◌∷◌, [], length, drop}
use Rattle.std.specs.Prelude.{All}
use Rattle.std.proofs.lemmas.List.Elements.{All-drop}
use Rattle.beas_core.specs.Order.{row_cmp}
use Rattle.beas_core.specs.Sets.{IsInOrder}
use Rattle.beas_core.specs.Types.{Row}
use Rattle.aggregate.specs.Grouping.{grouped_rows, cells_of}
use Rattle.aggregate.proofs.GroupFacts.{grouped_rows-more}
use Rattle.aggregate.proofs.RunFacts.{run_is, IsInOrder-drop}
use Rattle.aggregate.proofs.grouping.fold_rows.Goals as goal

pub loop-rest-preserved : goal.loop-rest-preserved
loop-rest-preserved c =
    let keys = c.args.keys in
    let folds = c.args.folds.now in
    let rest = c.loop-rest.rest.now in
    let n = c.run_length.result in
    let run = run_is keys n rest c.run_length.ensures.some c.run_length.ensures.within c.run_length.ensures.same c.run_length.ensures.ends in
    record {
      done =
          ap (λ found. found ++ grouped_rows keys folds c.split_at.result.1.now) c.in_ok-push.ensures.ok
          ∙ ap (λ others. (c.loop-rest.found ++ c.in_ok-cells_of.field-0 ∷ []) ++ grouped_rows keys folds others) c.split_at.ensures.back
          ∙ append_assoc c.loop-rest.found (c.in_ok-cells_of.field-0 ∷ []) (grouped_rows keys folds (drop n rest))
          ∙ ap (λ cells. c.loop-rest.found ++ (cells ∷ grouped_rows keys folds (drop n rest)))
          (c.in_ok-cells_of.ensures ∙ ap (λ fs. cells_of keys fs c.split_at.result.0.now) c.as_slice.ensures
          ∙ ap (cells_of keys folds) c.split_at.ensures.front)
          ∙ ap (λ all. c.loop-rest.found ++ all) (sym (grouped_rows-more keys n folds rest c.loop-rest.invariant.in_order run))
          ∙ c.loop-rest.invariant.done;
      in_order = subst (IsInOrder row_cmp) (sym c.split_at.ensures.back) (IsInOrder-drop row_cmp n rest c.loop-rest.invariant.in_order);
      wide = subst (λ rows. All (λ (row : Row). length row ≡ keys + length folds) rows) (sym c.split_at.ensures.back)
          (All-drop (λ (row : Row). length row ≡ keys + length folds) n rest c.loop-rest.invariant.wide);
    }
