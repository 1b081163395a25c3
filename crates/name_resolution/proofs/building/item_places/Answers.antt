use Rattle.std.proofs.Common.{◌++◌, ◌∷◌, [], ◌+◌, take, map, ◌∙◌, sym, ap}
use Rattle.std.specs.List.{filter_map}
use Rattle.name_resolution.specs.LookedUp.{place_of, column_of}
use Rattle.name_resolution.proofs.PartFacts.{columns_to_one, columns_to_none, mapped_one, not_at}
use Rattle.name_resolution.proofs.building.item_places.Goals as goal
use Rattle.name_resolution.proofs.building.item_places.Goals.{in-At+in_ok-push, in_default}

pub loop-item-preserved : goal.loop-item-preserved
loop-item-preserved c = elim c.match-item.branch [
  | in-At+in_ok-push w ↦ w.places-is ∙ w.in_ok-push.ensures.ok ∙ ap (λ p. c.loop-item.places ++ p ∷ []) w.place_of.ensures
      ∙ mapped_one place_of c.loop-item.places (filter_map column_of (take c.loop-item.item-index c.args.items.now))
      (filter_map column_of (take (c.loop-item.item-index + 1) c.args.items.now)) w.in-At.column c.loop-item.invariant
      (columns_to_one c.args.items.now c.loop-item.item-index c.item-item.result w.in-At.column c.loop-item-test.true c.item-item.is
      (ap column_of w.in-At.is))
  | in_default w ↦ w.places-is ∙ c.loop-item.invariant
      ∙ sym (ap (λ cs. map place_of cs) (columns_to_none c.args.items.now c.loop-item.item-index c.item-item.result c.loop-item-test.true c.item-item.is
      (not_at c.item-item.result w.in_default.not-At)))
]
