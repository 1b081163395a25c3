use Rattle.std.proofs.Common.{◌≡◌, ◌++◌, get_or, map, take, ap, subst}
use Rattle.std.specs.BinaryHeap.{heap_items}
use Rattle.std.specs.List.Sorted.{IsPermutation}
use Rattle.std.proofs.lemmas.List.Sorted.{IsPermutation-push_more}
use Rattle.beas_core.specs.Types.{Use}
use Rattle.attribute_closure.specs.Uses.{as_use}
use Rattle.plan_builder.specs.Candidates.{Entry, entry_of}
use Rattle.plan_builder.proofs.CandidateFacts.{entries_step, seen_is}
use Rattle.plan_builder.proofs.candidates.push_all.Goals as goal

pub loop-number-preserved : goal.loop-number-preserved
loop-number-preserved c =
    let us = map as_use c.args.uses.now in
    let i = c.loop-number.number-index in
    let number = get_or c.args.numbers.now i 0 in
    let found = seen_is c.args.uses.now number c.index-uses-number.result (c.requires i 0 c.loop-number-test.true) c.index-uses-number.is in
    let entry : Entry = record { 0 = (c.index-uses-number.result.access.now.bound, number) } in
    let is : entry ≡ entry_of us number = ap (λ (u : Use). record { 0 = (u.access.bound, number) }) found in
    let old = heap_items c.args.waiting.now in
    record {
      order = λ h. c.in_ok-push.ensures.heap_order (c.loop-number.invariant.order h);
      items = subst (λ (es : _). IsPermutation es (heap_items c.push.new.self)) (entries_step us old c.args.numbers.now i entry c.loop-number-test.true is)
          (IsPermutation-push_more (old ++ map (entry_of us) (take i c.args.numbers.now)) (heap_items c.loop-number.waiting) (heap_items c.push.new.self) entry
          c.loop-number.invariant.items c.in_ok-push.ensures.permutation);
    }
