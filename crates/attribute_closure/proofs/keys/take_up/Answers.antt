use Rattle.std.proofs.Common.{◌<◌, length, map, sym, subst, arith}
use Rattle.attribute_closure.specs.Uses.{as_use}
use Rattle.attribute_closure.specs.Keys.{AreCounted}
use Rattle.attribute_closure.proofs.Waiting.{none_given, taken_up_ready, taken_up_on, seen_at, length_seen}
use Rattle.attribute_closure.proofs.keys.take_up.Goals as goal
use Rattle.attribute_closure.proofs.keys.take_up.Goals.{then-columns-eq0+in_ok-push-2, else-columns-eq0}

pub loop-number-init : goal.loop-number-init
loop-number-init c = none_given c.args.block.now c.args.missing.now.items c.args.waiting.now c.args.ready.now c.requires.missing c.requires.waiting
    c.requires.ready

pub loop-number-preserved : goal.loop-number-preserved
loop-number-preserved c =
    let below : c.loop-number.number < length (map as_use c.args.uses.now) = omega (arith, length_seen c.args.uses.now, c.loop-number-test.true) in
    elim c.if-columns-eq0.branch [
      | then-columns-eq0+in_ok-push-2 w ↦ subst (AreCounted _ _ _ _ _) (sym w.ready-is)
          (taken_up_ready c.args.block.now (map as_use c.args.uses.now) c.loop-number.missing.items c.loop-number.waiting c.wait.new.waiting
          c.loop-number.ready c.loop-number.number c.len-columns.result (as_use c.index-uses-number.result)
          below (seen_at c.args.uses.now c.loop-number.number c.index-uses-number.result c.loop-number-test.true c.index-uses-number.is)
          c.loop-number.invariant c.in_ok-wait.ensures c.len-columns.ensures
          c.push.new.self.items w.push-then-columns-eq0.new.self c.in_ok-push.ensures.items w.in_ok-push-2.ensures.ok w.if-columns-eq0.true)
      | else-columns-eq0 w ↦ subst (AreCounted _ _ _ _ _) (sym w.ready-is)
          (taken_up_on c.args.block.now (map as_use c.args.uses.now) c.loop-number.missing.items c.loop-number.waiting c.wait.new.waiting
          c.loop-number.ready c.loop-number.number c.len-columns.result (as_use c.index-uses-number.result)
          below (seen_at c.args.uses.now c.loop-number.number c.index-uses-number.result c.loop-number-test.true c.index-uses-number.is)
          c.loop-number.invariant c.in_ok-wait.ensures c.len-columns.ensures
          c.push.new.self.items c.in_ok-push.ensures.items w.if-columns-eq0.false)
    ]
