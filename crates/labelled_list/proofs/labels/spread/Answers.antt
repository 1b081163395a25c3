use Rattle.std.proofs.Common.{◌≡◌, ◌<◌, ◌+◌, ◌-◌, length, get_or, ◌∙◌, ap, sym, subst, arith}
use Rattle.labelled_list.specs.declared.slot.Slot.{Slot}
use Rattle.labelled_list.specs.declared.slot.Standing.{Standing}
use Rattle.labelled_list.specs.Labels.{ArePlaces, in_order, entry_at}
use Rattle.labelled_list.proofs.LabelFacts.{length_order, order_at}
use Rattle.labelled_list.proofs.OrderFacts.{written}
use Rattle.labelled_list.proofs.SpreadFacts.{label_next, spread_more}
use Rattle.labelled_list.proofs.labels.spread.Goals as goal

pub write_label-requires : goal.write_label-requires
write_label-requires c =
    let slots = c.args.slots.now in
    let i = c.loop-i.i in
    let s = c.get.result.now in
    let inv = c.loop-i.invariant in
    let is : s ≡ get_or slots i s = c.get.ensures.item ∙ ap (λ xs. get_or xs i s) inv.walk in
    let places : ArePlaces (length c.loop-i.tuples.entries) slots = subst (λ n. ArePlaces n slots) (sym inv.same_length) c.requires.places in
    record {
      within =
          subst (λ (x : Slot). x.entry < length c.loop-i.tuples.entries) (sym is)
          (places.within i s (omega (arith, c.loop-i-test.true, c.requires.within)));
    }

pub loop-i-preserved : goal.loop-i-preserved
loop-i-preserved c =
    let slots = c.args.slots.now in
    let es = c.loop-i.tuples.entries in
    let old = in_order c.args.tuples.now.entries slots in
    let mid = in_order es slots in
    let new = in_order c.write_label.new.tuples.entries slots in
    let i = c.loop-i.i in
    let s = c.get.result.now in
    let first = c.args.first in
    let low = c.args.low in
    let step = c.args.step in
    let inv = c.loop-i.invariant in
    let w : Standing = record { count = (entry_at es s).1.count; label = c.loop-i.label + step } in
    let inside : i < length slots = omega (arith, c.loop-i-test.true, c.requires.within) in
    let within : i < length mid = omega (arith, inside, length_order es slots) in
    let is : s ≡ get_or slots i s = c.get.ensures.item ∙ ap (λ xs. get_or xs i s) inv.walk in
    let places : ArePlaces (length es) slots = subst (λ n. ArePlaces n slots) (sym inv.same_length) c.requires.places in
    let next = ap (λ m. m + step) inv.label in
    record {
      walk = c.get.ensures.same ∙ inv.walk;
      same_length = c.write_label.ensures.same_length ∙ inv.same_length;
      label = next ∙ label_next low step (i - first) (i + 1 - first) (omega (arith, c.loop-i.auto.i));
      spread = spread_more old mid new first i low step w inv.spread c.loop-i.auto.i within
          (ap (λ x. (entry_at es x).1.count) is ∙ sym (ap (λ x. x.1.count) (order_at es slots i s inside)))
          (next ∙ label_next low step (i - first) (i - first + 1) (omega arith))
          (ap (λ xs. in_order xs slots) c.write_label.ensures.relabelled ∙ written es slots i s w places inside is);
    }
