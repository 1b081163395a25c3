use Rattle.std.proofs.Common.{refl, sym, ◌∙◌, ap, Some}
use Rattle.std.specs.Str.{bytes_eq}
use Rattle.name_resolution.specs.Meanings.{columns_in}
use Rattle.name_resolution.specs.Scopes.{found_in}
use Rattle.name_resolution.proofs.ScopeFacts.{columns_to_named, columns_to_other, found_more}
use Rattle.name_resolution.proofs.scope.find_in.Goals as goal
use Rattle.name_resolution.proofs.scope.find_in.Goals.{then-is_text, else-is_text}

pub loop-place-init : goal.loop-place-init
unfolding columns_in
loop-place-init c = refl

pub loop-place-preserved : goal.loop-place-preserved
loop-place-preserved c = elim c.if-is_text.branch [
  | then-is_text w ↦ w.found-is ∙ ap Some w.one_more.ensures ∙ found_more _ _ _ c.loop-place.invariant
      ∙ ap found_in (sym
      (columns_to_named c.args.atom c.args.name.now c.args.columns.now c.loop-place.place c.index-columns-place.result c.loop-place-test.true
      c.index-columns-place.is
      (ap (λ n. bytes_eq n c.args.name.now) (sym c.as_str.ensures) ∙ sym c.is_text.ensures ∙ w.if-is_text.true)))
  | else-is_text w ↦ w.found-is ∙ c.loop-place.invariant
      ∙ ap found_in (sym
      (columns_to_other c.args.atom c.args.name.now c.args.columns.now c.loop-place.place c.index-columns-place.result c.loop-place-test.true
      c.index-columns-place.is
      (ap (λ n. bytes_eq n c.args.name.now) (sym c.as_str.ensures) ∙ sym c.is_text.ensures ∙ w.if-is_text.false)))
]
