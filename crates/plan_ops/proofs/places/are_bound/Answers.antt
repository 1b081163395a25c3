use Rattle.std.proofs.Common.{◌≡◌, ◌∙◌, ◌∷◌, [], Bool, true, false, arith, ap, sym, subst, inl, inr, refl, get_or, length, map, take}
use Rattle.std.specs.List.{list_all}
use Rattle.std.specs.Ordering.{nat_cmp}
use Rattle.std.proofs.lemmas.List.{take_all, take_more}
use Rattle.std.proofs.lemmas.List.Folds.{list_all-append, list_all-map}
use Rattle.beas_core.specs.declared.query.Place.{Place}
use Rattle.beas_core.specs.Coverage.{has, holds_classes, place_class}
use Rattle.beas_core.specs.Sets.{IsInOrder}
use Rattle.beas_core.proofs.Sets.{Has-get_or, Has-map}
use Rattle.beas_core.proofs.MemberTests.{all_has, and_both, which}
use Rattle.plan_ops.specs.Over.{set_of}
use Rattle.plan_ops.specs.Places.{place_of}
use Rattle.plan_ops.proofs.BoundSets.{held_by_place, is_above, is_below}
use Rattle.plan_ops.proofs.PlaceFacts.{classes_rise, place-le}
use Rattle.plan_ops.proofs.places.are_bound.Goals as goal

abbrev no_place : Place
no_place = record { atom = 0; column = record { 0 = 0 } }

pub position_in-requires : goal.position_in-requires
position_in-requires c = subst (IsInOrder nat_cmp) (sym c.requires.classes) (classes_rise (set_of c.args.block.now c.args.classes.now))

-- a class that has no place among them
pub returns-then-position_in-classes : goal.returns-then-position_in-classes
returns-then-position_in-classes c =
    let normal = c.args.block.now in
    let classes = c.args.classes.now in
    let places = c.args.places.now in
    let set = set_of normal classes in
    let place = get_or places c.loop-place.place-index no_place in
    let class = place_class normal place in
    let far : length classes ≡ place_of classes class =
    sym c.if-position_in-classes.true ∙ c.position_in.ensures ∙ ap (place_of classes) c.class_at-class.ensures in
    let none : has set class ≡ false = held_by_place normal classes class (c.requires.ranges place.atom place.column)
    ∙ is_above (place_of classes class) (length classes) (omega (arith, far)) in
    elim (which (holds_classes set (map (place_class normal) places))) [
      | inl all ↦ (
          let held : has set class ≡ true = all_has (has set) (map (place_class normal) places) class all
          (Has-map (place_class normal) places place (Has-get_or places c.loop-place.place-index no_place c.loop-place-test.true)) in cc)
      | inr not_all ↦ sym not_all
    ]

pub loop-place-preserved : goal.loop-place-preserved
loop-place-preserved c =
    let normal = c.args.block.now in
    let classes = c.args.classes.now in
    let places = c.args.places.now in
    let i = c.loop-place.place-index in
    let set = set_of normal classes in
    let place = get_or places i no_place in
    let class = place_class normal place in
    let test : Place → Bool = λ p. has set (place_class normal p) in
    let is = c.position_in.ensures ∙ ap (place_of classes) c.class_at-class.ensures in
    let le = place-le classes class in
    let other = c.if-position_in-classes.false in
    let held : has set class ≡ true = held_by_place normal classes class (c.requires.ranges place.atom place.column)
    ∙ is_below (place_of classes class) (length classes) (omega (arith, is, le, other)) in
    ap (list_all test) (take_more places i no_place c.loop-place-test.true) ∙ list_all-append test (take i places) (place ∷ [])
    ∙ and_both (list_all test (take i places)) (list_all test (place ∷ [])) c.loop-place.invariant (and_both (has set class) true held refl)

pub returns : goal.returns
returns c =
    let normal = c.args.block.now in
    let places = c.args.places.now in
    let set = set_of normal c.args.classes.now in
    let test : Place → Bool = λ p. has set (place_class normal p) in
    sym (list_all-map (has set) (place_class normal) places
    ∙ ap (list_all test) (sym (take_all c.loop-place.place-index places c.loop-place-test.false)) ∙ c.loop-place.invariant)
