use Rattle.std.proofs.Common.{◌<◌, ◌≤◌, length, map, ap, ◌∙◌, subst, arith}
use Rattle.beas_core.specs.Coverage.{uses}
use Rattle.attribute_closure.specs.Uses.{as_use}
use Rattle.attribute_closure.proofs.Waiting.{found_at}
use Rattle.attribute_closure.proofs.Closing.{closing_start, closing_step, closing_all, ready_held, ready_few}
use Rattle.attribute_closure.proofs.closure.close_from.Goals as goal

pub loop-next-init : goal.loop-next-init
loop-next-init c = record {
  counted = c.in_ok-add_set.ensures.counted;
  uses = ap (map as_use) c.in_ok-add_set.ensures.uses ∙ c.in_ok-keys.ensures.uses ∙ ap (uses c.args.block.now) c.as_slice.ensures;
  closing = closing_start c.args.block.now (map as_use c.add_set.new.self.uses) c.args.accesses.now c.args.start.now c.add_set.new.self.set.items
      c.add_set.new.self.ready c.in_ok-add_set.ensures.set;
}

pub loop-next-preserved : goal.loop-next-preserved
loop-next-preserved c =
    let k = c.loop-next.keys in
    let here : c.loop-next.next < length k.ready = subst (λ n. c.loop-next.next < n) c.len.ensures c.loop-next-test.true in
    let held = ready_held c.args.block.now (map as_use k.uses) k.set.items k.missing.items k.waiting.items k.ready c.loop-next.invariant.counted
    c.loop-next.next here in
    record {
      counted = c.in_ok-add_columns.ensures.counted;
      uses = ap (map as_use) c.in_ok-add_columns.ensures.uses ∙ c.loop-next.invariant.uses;
      closing = closing_step c.args.block.now c.args.accesses.now c.args.start.now c.requires.ranges
          (map as_use k.uses) c.loop-next.invariant.uses c.loop-next.next k.set.items k.missing.items k.waiting.items k.ready
          c.loop-next.invariant.counted c.loop-next.invariant.closing c.add_columns.new.self.ready (as_use c.index-as_slice-as_slice.result)
          (found_at k.uses c.as_slice-in-loop-next.result.now k.ready c.as_slice-in-loop-next-2.result.now c.loop-next.next
          c.index-as_slice-as_slice.result c.as_slice-in-loop-next.ensures c.as_slice-in-loop-next-2.ensures
          c.index-as_slice-as_slice.is held.0) here c.in_ok-add_columns.ensures.goes_on (map as_use c.add_columns.new.self.uses) (ap
          (map as_use) c.in_ok-add_columns.ensures.uses) c.add_columns.new.self.set.items
          c.as_slice-in-loop-next-3.result.now c.as_slice-in-loop-next-3.ensures c.in_ok-add_columns.ensures.set;
    }

pub loop-next-smaller : goal.loop-next-smaller
loop-next-smaller c =
    let k = c.loop-next.keys in
    let few = ready_few c.args.block.now (map as_use k.uses) k.set.items k.missing.items k.waiting.items k.ready c.loop-next.invariant.counted in
    let same = ap (λ us. length (map as_use us)) c.in_ok-add_columns.ensures.uses in
    let here : c.loop-next.next < length k.ready = subst (λ n. c.loop-next.next < n) c.len.ensures c.loop-next-test.true in
    omega arith

pub returns : goal.returns
returns c =
    let k = c.loop-next.keys in
    let all : length k.ready ≤ c.loop-next.next = subst (λ n. n ≤ c.loop-next.next) c.len.ensures c.loop-next-test.false in
    c.from_vec.ensures
    ∙ closing_all c.args.block.now c.args.accesses.now c.args.start.now c.requires.ranges
    (map as_use k.uses) c.loop-next.invariant.uses c.loop-next.next k.set.items k.missing.items k.waiting.items k.ready
    c.loop-next.invariant.counted c.loop-next.invariant.closing c.requires.classes all
