use Rattle.std.specs.Option.{option_copied}
use Rattle.std.proofs.Common.{◌≡◌, ◌≤◌, ◌+◌, ℕ, Err, Result, false, subst, arith, map}
use Rattle.std.proofs.lemmas.List.{take_all}
use Rattle.std.proofs.lemmas.Result.{err_from_is_err_and}
use Rattle.beas_core.specs.declared.plan.DStep.{DStep}
use Rattle.beas_core.specs.Order.{row_cmp}
use Rattle.beas_core.specs.Sets.{distinct}
use Rattle.beas_core.specs.Valuations.{output_row, answers_of}
use Rattle.plan_ops.specs.Over.{Counts, bound_set}
use Rattle.plan_ops.proofs.FrontFacts.{Front, front_none, nothing_read, answered, is_next, front_more, last_over, last_answers, at_error}
use Rattle.plan_executor.proofs.answering.answer_block.Goals as goal

abbrev none : DStep
none = record { atom = 0; access = record { 0 = 0 }; adds = false }

pub loop-step-init : goal.loop-step-init
loop-step-init g c =
    let rows = g.P.AccessPort.rows c.args.port.now in
    let normal = c.args.block.now in
    let accesses = g.P.AccessPort.accesses c.args.port.now in
    let guide = option_copied c.args.guide in
    record {
      front = front_none rows normal accesses guide c.in_ok-from.from c.in_ok-from.ensures.over c.in_ok-from.ensures.rows;
      reads = nothing_read rows normal accesses guide c.args.reads.now;
      steps = nothing_read rows normal accesses guide c.args.steps.now;
    }

pub take_step-requires-clause-key : goal.take_step-requires-clause-key
take_step-requires-clause-key g c =
    (is_next (g.P.AccessPort.rows c.args.port.now) c.args.block.now (g.P.AccessPort.accesses c.args.port.now) (option_copied c.args.guide)
    c.requires.classes c.requires.constants c.requires.fits c.args.plan.now c.loop-step.step-index none c.loop-step-test.true c.requires.sound
    c.loop-step.from c.loop-step.invariant.front).key

pub take_step-requires-clause-over : goal.take_step-requires-clause-over
take_step-requires-clause-over g c =
    (is_next (g.P.AccessPort.rows c.args.port.now) c.args.block.now (g.P.AccessPort.accesses c.args.port.now) (option_copied c.args.guide)
    c.requires.classes c.requires.constants c.requires.fits c.args.plan.now c.loop-step.step-index none c.loop-step-test.true c.requires.sound
    c.loop-step.from c.loop-step.invariant.front).over

pub take_step-requires-clause-room : goal.take_step-requires-clause-room
take_step-requires-clause-room g c =
    let room = (is_next (g.P.AccessPort.rows c.args.port.now) c.args.block.now (g.P.AccessPort.accesses c.args.port.now) (option_copied c.args.guide)
    c.requires.classes c.requires.constants c.requires.fits c.args.plan.now c.loop-step.step-index none c.loop-step-test.true c.requires.sound
    c.loop-step.from c.loop-step.invariant.front).room c.requires.holds in
    let reads = c.loop-step.invariant.reads in
    let all = c.requires.room in
    omega (arith, room, reads, all)

-- a step that fails has read at most what the plan reads
failed : {A E : Type 0} (result : Result A E) (e : E) (start before now front share whole : ℕ) → result ≡ Err e → before ≡ start + front → before ≤ now
    → now ≤ before + share → front + share ≤ whole → Counts result start now whole
failed result e start before now front share whole is so_far low high within =
    at_error result e start now whole is (omega (arith, so_far, low)) (omega (arith, within, so_far, high))

pub returns-in_err-from-2-clause-reads : goal.returns-in_err-from-2-clause-reads
returns-in_err-from-2-clause-reads g c =
    let p = err_from_is_err_and c.from_residual-in_err-from-2.result c.from_residual-in_err-from-2.ensures.1 in
    failed c.from_residual-in_err-from-2.result p.0 c.args.reads.now _ c.take_step.new.reads _ _ _ p.1 c.loop-step.invariant.reads
    c.in_err-from-2.ensures.reads.0 c.in_err-from-2.ensures.reads.1
    (is_next (g.P.AccessPort.rows c.args.port.now) c.args.block.now (g.P.AccessPort.accesses c.args.port.now) (option_copied c.args.guide)
    c.requires.classes c.requires.constants c.requires.fits c.args.plan.now c.loop-step.step-index none c.loop-step-test.true c.requires.sound
    c.loop-step.from c.loop-step.invariant.front).within

pub returns-in_err-from-2-clause-steps : goal.returns-in_err-from-2-clause-steps
returns-in_err-from-2-clause-steps g c =
    let p = err_from_is_err_and c.from_residual-in_err-from-2.result c.from_residual-in_err-from-2.ensures.1 in
    failed c.from_residual-in_err-from-2.result p.0 c.args.steps.now _ c.take_step.new.steps _ _ _ p.1 c.loop-step.invariant.steps
    c.in_err-from-2.ensures.steps.0 c.in_err-from-2.ensures.steps.1
    (is_next (g.P.AccessPort.rows c.args.port.now) c.args.block.now (g.P.AccessPort.accesses c.args.port.now) (option_copied c.args.guide)
    c.requires.classes c.requires.constants c.requires.fits c.args.plan.now c.loop-step.step-index none c.loop-step-test.true c.requires.sound
    c.loop-step.from c.loop-step.invariant.front).within

pub loop-step-preserved : goal.loop-step-preserved
loop-step-preserved g c =
    let rows = g.P.AccessPort.rows c.args.port.now in
    let normal = c.args.block.now in
    let accesses = g.P.AccessPort.accesses c.args.port.now in
    let guide = option_copied c.args.guide in
    let share = (is_next rows normal accesses guide c.requires.classes c.requires.constants c.requires.fits c.args.plan.now c.loop-step.step-index none
    c.loop-step-test.true c.requires.sound c.loop-step.from c.loop-step.invariant.front).reads in
    let reads_so_far = c.loop-step.invariant.reads in
    let steps_so_far = c.loop-step.invariant.steps in
    let reads_now = c.in_ok-from-2.ensures.reads in
    let steps_now = c.in_ok-from-2.ensures.steps in
    record {
      front = front_more rows normal accesses guide c.requires.classes c.requires.constants c.requires.fits c.args.plan.now c.loop-step.step-index none
          c.loop-step-test.true c.requires.sound c.loop-step.from c.loop-step.invariant.front c.in_ok-from-2.from c.in_ok-from-2.ensures.over
          c.in_ok-from-2.ensures.rows;
      reads = omega (arith, share, reads_so_far, reads_now);
      steps = omega (arith, share, steps_so_far, steps_now);
    }

pub project-requires : goal.project-requires
project-requires g c =
    let rows = g.P.AccessPort.rows c.args.port.now in
    let accesses = g.P.AccessPort.accesses c.args.port.now in
    let guide = option_copied c.args.guide in
    let front = subst (λ done. Front rows c.args.block.now accesses guide done c.loop-step.from)
    (take_all c.loop-step.step-index c.args.plan.now c.loop-step-test.false) c.loop-step.invariant.front in
    last_over rows c.args.block.now accesses guide c.requires.classes c.requires.constants c.requires.fits c.args.plan.now c.requires.sound
    c.loop-step.from front

pub returns-clause-rows : goal.returns-clause-rows
returns-clause-rows g c =
    let rows = g.P.AccessPort.rows c.args.port.now in
    let normal = c.args.block.now in
    let accesses = g.P.AccessPort.accesses c.args.port.now in
    let guide = option_copied c.args.guide in
    let front = subst (λ done. Front rows normal accesses guide done c.loop-step.from)
    (take_all c.loop-step.step-index c.args.plan.now c.loop-step-test.false) c.loop-step.invariant.front in
    answered c.project.result (distinct row_cmp (map (output_row normal (bound_set normal c.loop-step.from)) c.loop-step.from.rows))
    (answers_of rows normal accesses guide c.args.plan.now)
    (last_answers rows normal accesses guide c.requires.classes c.requires.constants c.requires.fits c.args.plan.now c.requires.sound c.loop-step.from front)
    c.project.ensures
