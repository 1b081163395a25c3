use Rattle.std.proofs.Common.{◌≡◌, ◌∙◌, ◌<◌, ℕ, List, All, refl, length, map, drop, take, ◌-◌, ap, sym, subst}
use Rattle.std.specs.BinaryHeap.{heap_items}
use Rattle.beas_core.specs.Coverage.{class_at, with_classes}
use Rattle.attribute_closure.specs.Keys.{AreCounted}
use Rattle.attribute_closure.specs.Uses.{as_use}
use Rattle.attribute_closure.proofs.Counting.{goes_on_further, written}
use Rattle.plan_builder.specs.Candidates.{AreLeft, AreServed}
use Rattle.plan_builder.proofs.SetFacts.{with_members}
use Rattle.plan_builder.proofs.CandidateFacts.{joined_same, noted_same, rest_of, taken_served, taken_waiting}
use Rattle.plan_builder.proofs.candidates.Candidates.take.Goals as goal

pub returns-clause-are : goal.returns-clause-are
returns-clause-are c =
    let normal = c.args.block.now in
    let taken = as_use c.args.found.now in
    let old = c.args.self.now.keys in
    let new = c.add_columns-2.new.self in
    let us = map as_use new.uses in
    let left = c.requires.left in
    let one = c.in_ok-add_columns.ensures in
    let two = c.in_ok-add_columns-2.ensures in
    let same : new.uses ≡ old.uses = two.uses ∙ one.uses in
    let classes : List _ → List ℕ = map (class_at normal c.args.found.now.atom) in
    let is = two.set ∙ ap (λ cs. with_classes c.add_columns.new.self.set.items (classes cs)) c.as_slice-2.ensures
    ∙ ap (λ s. with_classes s (classes c.args.found.now.access.now.fetched)) (one.set ∙ ap (λ cs. with_classes old.set.items (classes cs)) c.as_slice.ensures)
    ∙ with_members normal old.set.items taken in
    let counted = subst (λ xs. AreCounted normal (map as_use xs) old.set.items old.missing.items old.waiting.items old.ready) (sym same) left.counted in
    let goes = goes_on_further old.ready c.add_columns.new.self.ready new.ready one.goes_on two.goes_on in
    let more = rest_of c.as_slice-3.result.now c.len-noted.result
    ∙ ap (λ n. drop n c.as_slice-3.result.now) c.len-noted.ensures ∙ ap (drop (length old.ready)) c.as_slice-3.ensures in
    let atoms = subst (λ xs. All (λ u. u.atom < length normal.atoms) (map as_use xs)) (sym same) left.atoms in
    let entries = heap_items c.args.self.now.waiting in
    let numbers = take (length c.as_slice-3.result.now - c.len-noted.result) (drop c.len-noted.result c.as_slice-3.result.now) in
    record {
      counted = two.counted;
      atoms = atoms;
      waiting = taken_waiting normal us old.set.items taken old.missing.items old.waiting.items old.ready counted new.set.items is
          new.missing.items new.waiting.items new.ready two.counted goes entries (heap_items c.push_all.new.waiting)
          (subst (λ xs. AreLeft normal (map as_use xs) old.set.items taken entries) (sym same) left.left)
          (c.in_ok-push_all.ensures.order left.left.order)
          (joined_same entries entries c.as_slice-4.result.now new.uses numbers (drop (length old.ready) new.ready) (heap_items c.push_all.new.waiting)
          refl c.as_slice-4.ensures more c.in_ok-push_all.ensures.items);
      served = subst (AreServed normal us new.set.items)
          (sym (written c.note_served.new.served c.args.self.now.served.items c.args.self.now.served.len (c.note_served.auto.served ∙ c.deref_mut.ensures.len)
          ∙ noted_same normal c.deref_mut.result.now c.args.self.now.served.items c.as_slice-5.result.now new.uses numbers
          (drop (length old.ready) new.ready) c.note_served.new.served c.deref_mut.ensures.value c.as_slice-5.ensures more c.note_served.ensures))
          (taken_served normal us old.set.items taken old.missing.items old.waiting.items old.ready counted new.set.items is
          new.missing.items new.waiting.items new.ready two.counted goes c.args.self.now.served.items
          (subst (λ xs. AreServed normal (map as_use xs) old.set.items c.args.self.now.served.items) (sym same) left.served) atoms);
    }
