use Rattle.std.proofs.Common.{◌≡◌, ◌≢◌, ◌<◌, ◌++◌, ◌∷◌, [], length, get_or, take, refl, ap, sym, ◌∙◌, subst, arith}
use Rattle.std.specs.List.{AllByRecursion}
use Rattle.std.proofs.lemmas.List.{get_or-take, length-take-le, take_more}
use Rattle.labelled_list.specs.declared.coded.Coded.{Coded}
use Rattle.labelled_list.specs.declared.slot.Slot.{Slot}
use Rattle.labelled_list.specs.Labels.{AreDistinct, entry_at, item_of, items_of}
use Rattle.labelled_list.proofs.KeyFacts.{all_by_places, item_at, items_distinct, length_items, put_last}
use Rattle.labelled_list.proofs.labelled.copy_of.Goals as goal

pub item_of_slot-requires : goal.item_of_slot-requires
item_of_slot-requires c =
    let es = c.args.tuples.now.entries in
    let slots = c.args.slots.now in
    let i = c.loop-i.i in
    let s = c.get.result.now in
    let within : i < length slots = omega (arith, c.loop-i-test.true, c.len-i-end.ensures.len, c.requires.places.all) in
    let is : s ≡ get_or slots i s = c.get.ensures.item ∙ ap (λ xs. get_or xs i s) c.loop-i.invariant.walk in
    subst (λ (x : Slot). x.entry < length es) (sym is) (c.requires.places.within i s within)

pub insert-requires-clause-absent : goal.insert-requires-clause-absent
insert-requires-clause-absent c =
    let es = c.args.tuples.now.entries in
    let slots = c.args.slots.now in
    let all = items_of es slots in
    let i = c.loop-i.i in
    let x = c.in_ok-item_of_slot.field-0 in
    let s = c.get.result.now in
    let inside : i < length slots = omega (arith, c.loop-i-test.true, c.len-i-end.ensures.len, c.requires.places.all) in
    let within : i < length all = omega (arith, inside, length_items es slots) in
    let long = length-take-le i all (omega (arith, within)) in
    let is : s ≡ get_or slots i s = c.get.ensures.item ∙ ap (λ xs. get_or xs i s) c.loop-i.invariant.walk in
    let item : x ≡ get_or all i x = c.in_ok-item_of_slot.ensures ∙ ap (λ z. item_of (entry_at es z)) is ∙ sym (item_at es slots i x s inside) in
    let distinct : AreDistinct all = items_distinct es slots all c.requires.places c.len-i-end.ensures.unique refl in
    subst (AllByRecursion (λ (item : Coded). item.codes ≢ x.codes)) (sym c.loop-i.invariant.copy)
    (all_by_places (λ (item : Coded). item.codes ≢ x.codes) (take i all) (λ k d l same.
    let before : k < i = omega (arith, l, long) in
    let here : get_or all i d ≡ x = item_at es slots i d s inside ∙ sym (item_at es slots i x s inside) ∙ sym item in
    distinct k i d before within
    (sym (ap (λ (y : Coded). y.codes) (get_or-take i all k d before)) ∙ same ∙ sym (ap (λ (y : Coded). y.codes) here))))

pub loop-i-preserved : goal.loop-i-preserved
loop-i-preserved c =
    let es = c.args.tuples.now.entries in
    let slots = c.args.slots.now in
    let all = items_of es slots in
    let i = c.loop-i.i in
    let x = c.in_ok-item_of_slot.field-0 in
    let s = c.get.result.now in
    let inside : i < length slots = omega (arith, c.loop-i-test.true, c.len-i-end.ensures.len, c.requires.places.all) in
    let within : i < length all = omega (arith, inside, length_items es slots) in
    let long = length-take-le i all (omega (arith, within)) in
    let is : s ≡ get_or slots i s = c.get.ensures.item ∙ ap (λ xs. get_or xs i s) c.loop-i.invariant.walk in
    let item : x ≡ get_or all i x = c.in_ok-item_of_slot.ensures ∙ ap (λ z. item_of (entry_at es z)) is ∙ sym (item_at es slots i x s inside) in
    record {
      walk = c.get.ensures.same ∙ c.loop-i.invariant.walk;
      copy =
          c.in_ok-insert.ensures.ok
          ∙ put_last c.loop-i.copy i x (sym long ∙ sym (ap length c.loop-i.invariant.copy))
          ∙ ap (λ y. c.loop-i.copy ++ y ∷ []) item
          ∙ ap (λ xs. xs ++ get_or all i x ∷ []) c.loop-i.invariant.copy
          ∙ sym (take_more all i x within);
    }
