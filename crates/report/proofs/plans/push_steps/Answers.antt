use Rattle.std.proofs.Common.{◌∙◌, ◌+◌, ◌++◌, false, refl, sym, ap, arith, get_or}
use Rattle.beas_core.specs.declared.plan.DStep.{DStep}
use Rattle.report.proofs.PlanFacts.{advance, announced-next, last-next, step_told, steps_text-next}
use Rattle.report.proofs.plans.push_steps.Goals as goal

-- the step past the last one
abbrev no_step : DStep
no_step = record { atom = 0; access = record { 0 = 0 }; adds = false }

pub overflow_mul-cost : goal.overflow_mul-cost
overflow_mul-cost c =
    let accesses = c.args.catalogue.now.accesses ++ c.args.scans.now in
    let left = announced-next accesses c.loop-place.size _ c.args.steps.now c.loop-place.place no_step c.loop-place-test.true refl in
    let bound = c.from.ensures ∙ ap (λ a. a.bound) c.access_of-access.ensures.access in
    rw bound (omega (arith, left, c.loop-place.invariant.1))

pub loop-place-preserved : goal.loop-place-preserved
loop-place-preserved c =
    let schema = c.args.catalogue.now in
    let accesses = schema.accesses ++ c.args.scans.now in
    let place = c.loop-place.place in
    let step = step_told schema accesses c.args.block (place + 1) c.loop-place.size (get_or c.args.steps.now place no_step)
    c.access_of-access.result.now c.from-atom.result c.from.result c.size_after-size.result c.as_str.result.now
    c.access_of-access.ensures.access c.from.ensures c.size_after-size.ensures (c.as_str.ensures ∙ c.in_ok-used.ensures) c.from-atom.ensures in
    let lines = steps_text-next schema accesses c.args.block (place + 1) c.loop-place.size c.size_after-size.result c.args.steps.now
    place no_step c.loop-place-test.true step.0 in
    let left = announced-next accesses c.loop-place.size c.size_after-size.result c.args.steps.now place no_step c.loop-place-test.true step.0 in
    let last = last-next accesses c.loop-place.size c.size_after-size.result c.args.steps.now place no_step c.loop-place-test.true step.0 in (
      advance c.loop-place.text _ c.in_ok-push_str.ensures.ok (c.as_str-in-loop-place.ensures ∙ c.in_ok-line.ensures ∙ step.1) lines c.loop-place.invariant.0,
      omega (arith, left, c.loop-place.invariant.1),
      sym last ∙ c.loop-place.invariant.2,
    )
