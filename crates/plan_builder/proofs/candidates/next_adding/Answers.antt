use Rattle.std.proofs.Common.{◌∙◌, Some, ap, map, length, refl, sym}
use Rattle.std.specs.BinaryHeap.{heap_items}
use Rattle.beas_core.specs.Derivations.{adds_class}
use Rattle.attribute_closure.specs.Uses.{as_use, use_at}
use Rattle.plan_builder.proofs.CandidateFacts.{adds_none, best, empty, none_waiting, others, passed, up_is}
use Rattle.plan_builder.proofs.candidates.next_adding.Goals as goal

pub returns-then-adds-clause-best : goal.returns-then-adds-clause-best
returns-then-adds-clause-best c =
    let us = map as_use c.args.uses.now in
    let entries = heap_items c.loop-next.waiting in
    let rest = heap_items c.pop.new.self in
    let order = c.in-Some.ensures.heap_order c.loop-next.invariant.order in
    let found = up_is c.args.block.now us c.args.set.now entries rest c.in-Some.next c.loop-next.invariant c.in-Some.ensures.permutation order.0 order.1
    c.args.uses.now c.index-uses-next.result refl c.index-uses-next.is in
    ap Some found
    ∙ sym (best c.args.block.now us c.args.set.now entries rest c.in-Some.next c.loop-next.invariant c.in-Some.ensures.permutation order.0 order.1
    (ap (adds_class c.args.block.now c.args.set.now) (sym found) ∙ sym c.adds.ensures ∙ c.if-adds.true))

pub returns-then-adds-clause-left : goal.returns-then-adds-clause-left
returns-then-adds-clause-left c =
    let us = map as_use c.args.uses.now in
    let entries = heap_items c.loop-next.waiting in
    let rest = heap_items c.pop.new.self in
    let order = c.in-Some.ensures.heap_order c.loop-next.invariant.order in
    let found = up_is c.args.block.now us c.args.set.now entries rest c.in-Some.next c.loop-next.invariant c.in-Some.ensures.permutation order.0 order.1
    c.args.uses.now c.index-uses-next.result refl c.index-uses-next.is in
    others c.args.block.now us c.args.set.now entries rest c.in-Some.next c.loop-next.invariant c.in-Some.ensures.permutation order.0 order.1
    (as_use c.index-uses-next.result) found (adds_none c.args.block.now us c.args.set.now (use_at us c.in-Some.next.0.1) c.requires.ranges c.requires.classes)

pub loop-next-preserved : goal.loop-next-preserved
loop-next-preserved c =
    let us = map as_use c.args.uses.now in
    let entries = heap_items c.loop-next.waiting in
    let rest = heap_items c.pop.new.self in
    let order = c.in-Some.ensures.heap_order c.loop-next.invariant.order in
    let found = up_is c.args.block.now us c.args.set.now entries rest c.in-Some.next c.loop-next.invariant c.in-Some.ensures.permutation order.0 order.1
    c.args.uses.now c.index-uses-next.result refl c.index-uses-next.is in
    passed c.args.block.now us c.args.set.now entries rest c.in-Some.next c.loop-next.invariant c.in-Some.ensures.permutation order.0 order.1
    (ap (adds_class c.args.block.now c.args.set.now) (sym found) ∙ sym c.adds.ensures ∙ c.if-adds.false)

pub returns-clause-best : goal.returns-clause-best
returns-clause-best c =
    let same = c.in_default.ensures.unchanged in
    let none = ap length (sym same.0) ∙ c.recall_items.ensures ∙ same.1 ∙ c.in_default.ensures.none in
    sym (none_waiting c.args.block.now (map as_use c.args.uses.now) c.args.set.now (heap_items c.loop-next.waiting)
    (empty (heap_items c.loop-next.waiting) none) c.loop-next.invariant)
