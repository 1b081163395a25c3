use Rattle.std.proofs.Common.{arith, [], ◌∷◌, ◌++◌, sym, ◌∙◌, ap, append_assoc}
use Rattle.std.proofs.lemmas.List.FromFn.{map-range_with_len_more}
use Rattle.name_resolution.specs.LookedUp.{place_at}
use Rattle.name_resolution.proofs.building.add_places.Goals as goal

pub loop-column-preserved : goal.loop-column-preserved
loop-column-preserved c =
    c.in_ok-push.ensures.ok ∙ ap (λ ps. ps ++ place_at c.args.atom c.loop-column.column ∷ []) c.loop-column.invariant ∙ append_assoc c.args.places.now _ _
    ∙ ap (λ ps. c.args.places.now ++ ps) (sym (map-range_with_len_more (place_at c.args.atom) 0 c.loop-column.column c.loop-column.column (omega arith)))
