use Rattle.std.proofs.Common.{◌∙◌, ap, sym, arith}
use Rattle.std.specs.List.{filter}
use Rattle.beas_core.specs.Coverage.{is_covered, uses}
use Rattle.beas_core.specs.Derivations.{least_bound}
use Rattle.attribute_closure.specs.Uses.{as_use}
use Rattle.plan_builder.specs.Choices.{may_add}
use Rattle.plan_builder.proofs.Turns.{left_done, left_stuck, left_out, plan_bound, plan_live, plan_left, chosen_member, by_bool}
use Rattle.plan_builder.proofs.derivations.add_best.Goals as goal

pub returns-then-covers : goal.returns-then-covers
returns-then-covers c =
    let covered = sym c.covers.ensures ∙ c.if-covers.true in (
      c.loop-turn.invariant.come,
      left_done c.args.block.now c.args.accesses.now c.args.set.now c.loop-turn.set c.loop-turn.steps c.args.block.now.count
          c.loop-turn._turn (omega arith) c.loop-turn.invariant.left covered,
    )

pub returns-in-None : goal.returns-in-None
returns-in-None c =
    let covered = sym c.covers.ensures ∙ c.if-covers.false in
    let best = ap (λ us. least_bound (filter (may_add c.args.block.now c.loop-turn.set) us)) (sym c.requires.uses) ∙ sym c.in-None.ensures in
    left_stuck c.args.block.now c.args.accesses.now c.args.set.now c.loop-turn.set c.loop-turn.steps c.args.block.now.count
    c.loop-turn._turn (omega arith) c.loop-turn.invariant.left covered best

pub loop-turn-preserved : goal.loop-turn-preserved
loop-turn-preserved c =
    let covered = sym c.covers.ensures ∙ c.if-covers.false in
    let chosen = c.in-Some.ensures ∙ ap (λ us. least_bound (filter (may_add c.args.block.now c.loop-turn.set) us)) c.requires.uses in
    let best = sym chosen in
    let member = chosen_member (may_add c.args.block.now c.loop-turn.set) (uses c.args.block.now c.args.accesses.now)
    (as_use c.in-Some.found) chosen in
    let taken = c.in_ok-take_step-in-Some.ensures in
    record {
      come = record {
        bound = plan_bound c.args.block.now c.args.accesses.now c.requires.ids c.args.set.now c.loop-turn.set
            c.loop-turn.steps c.in-Some.found member
            c.take_step.new.set c.take_step.new.steps taken.set taken.steps c.loop-turn.invariant.come.bound;
        live = plan_live c.args.block.now c.args.accesses.now c.requires.ids c.args.set.now c.loop-turn.set c.loop-turn.steps
            c.in-Some.found member
            c.take_step.new.set c.take_step.new.steps taken.set taken.steps c.loop-turn.invariant.come.live;
      };
      left = plan_left c.args.block.now c.args.accesses.now c.requires.ids c.args.set.now c.loop-turn.set c.loop-turn.steps
          c.in-Some.found member
          c.take_step.new.set c.take_step.new.steps taken.set taken.steps
          c.args.block.now.count c.loop-turn._turn c.loop-turn-test.true
          c.loop-turn.invariant.left covered best;
    }

pub returns : goal.returns
returns c =
    by_bool c.covers-2.result (is_covered c.args.block.now c.args.accesses.now c.loop-turn.set) c.covers-2.ensures
    (λ h. (
      c.loop-turn.invariant.come,
      left_done c.args.block.now c.args.accesses.now c.args.set.now c.loop-turn.set c.loop-turn.steps c.args.block.now.count
          c.loop-turn._turn c.loop-turn.auto._turn-end c.loop-turn.invariant.left h,
    ))
    (λ h. left_out c.args.block.now c.args.accesses.now c.args.set.now c.loop-turn.set c.loop-turn.steps
    c.args.block.now.count c.loop-turn._turn c.loop-turn.auto._turn-end c.loop-turn.invariant.left h c.loop-turn-test.false)
