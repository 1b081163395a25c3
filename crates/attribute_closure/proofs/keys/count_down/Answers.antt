use Rattle.std.proofs.Common.{sym, subst}
use Rattle.attribute_closure.specs.Keys.{CountedDown}
use Rattle.attribute_closure.proofs.Counting.{some_there, down_ready, down_on}
use Rattle.attribute_closure.proofs.keys.count_down.Goals as goal
use Rattle.attribute_closure.proofs.keys.count_down.Goals.{then-missing-number-eq0+in_ok-push, else-missing-number-eq0}

pub overflow_sub-missing : goal.overflow_sub-missing
overflow_sub-missing c =
    some_there c.args.numbers.now c.args.missing.now c.loop-number.missing c.args.ready.now c.loop-number.ready c.loop-number.number-index
    c.loop-number.invariant c.loop-number-test.true c.requires.inside c.requires.enough

pub loop-number-preserved : goal.loop-number-preserved
loop-number-preserved c = elim c.if-missing-number-eq0.branch [
  | then-missing-number-eq0+in_ok-push w ↦
      subst (CountedDown _ _ _ _) (sym w.ready-is)
      (down_ready c.args.numbers.now c.args.missing.now c.loop-number.missing c.args.ready.now c.loop-number.ready w.push.new.self
      c.loop-number.number-index c.loop-number.invariant c.loop-number-test.true
      c.requires.inside c.requires.enough w.if-missing-number-eq0.true w.in_ok-push.ensures.ok)
  | else-missing-number-eq0 w ↦
      subst (CountedDown _ _ _ _) (sym w.ready-is)
      (down_on c.args.numbers.now c.args.missing.now c.loop-number.missing c.args.ready.now c.loop-number.ready c.loop-number.number-index
      c.loop-number.invariant c.loop-number-test.true
      c.requires.inside c.requires.enough w.if-missing-number-eq0.false)
]
