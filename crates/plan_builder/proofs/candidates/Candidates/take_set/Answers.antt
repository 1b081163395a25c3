use Rattle.std.proofs.Common.{◌≡◌, ◌∙◌, ◌<◌, All, false, [], length, map, replicate, sym, subst}
use Rattle.std.specs.BinaryHeap.{heap_items}
use Rattle.attribute_closure.specs.Uses.{as_use}
use Rattle.attribute_closure.proofs.Counting.{written}
use Rattle.plan_builder.specs.Candidates.{AreServed}
use Rattle.plan_builder.proofs.CandidateFacts.{joined_same, noted_same, served_first, waiting_first}
use Rattle.plan_builder.proofs.candidates.Candidates.take_set.Goals as goal

pub returns-clause-are : goal.returns-clause-are
returns-clause-are c =
    let keys = c.add_set.new.self in
    let us = map as_use keys.uses in
    let normal = c.args.block.now in
    let old = c.args.self.now in
    let counted = c.in_ok-add_set.ensures.counted in
    let same : keys.uses ≡ old.keys.uses = c.in_ok-add_set.ensures.uses in
    let atoms = subst (λ xs. All (λ u. u.atom < length normal.atoms) (map as_use xs)) (sym same) c.requires.atoms in
    record {
      counted = counted;
      atoms = atoms;
      waiting = waiting_first normal us keys.set.items keys.missing.items keys.waiting.items keys.ready counted (heap_items c.push_all.new.waiting)
          (c.in_ok-push_all.ensures.order c.requires.order)
          (joined_same (heap_items old.waiting) [] c.as_slice.result.now keys.uses c.as_slice-ready.result.now keys.ready
          (heap_items c.push_all.new.waiting) c.requires.waiting c.as_slice.ensures c.as_slice-ready.ensures c.in_ok-push_all.ensures.items);
      served = subst (AreServed normal us keys.set.items)
          (sym (written c.note_served.new.served old.served.items old.served.len (c.note_served.auto.served ∙ c.deref_mut.ensures.len)))
          (served_first normal us keys.set.items keys.missing.items keys.waiting.items keys.ready counted c.note_served.new.served atoms
          (noted_same normal c.deref_mut.result.now (replicate (length normal.atoms) false) c.as_slice-2.result.now keys.uses c.as_slice-ready.result.now
          keys.ready c.note_served.new.served (c.deref_mut.ensures.value ∙ c.requires.served) c.as_slice-2.ensures c.as_slice-ready.ensures
          c.note_served.ensures));
    }
