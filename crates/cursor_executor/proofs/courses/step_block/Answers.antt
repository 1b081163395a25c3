use Rattle.std.proofs.Common.{◌∙◌, ◌<◌, length, refl, ap, sym, subst}
use Rattle.std.specs.Option.{option_copied}
use Rattle.block_walk.specs.Routes.{route}
use Rattle.block_walk.specs.Turns.{TurnIs}
use Rattle.block_walk.specs.Walks.{IsTidy, Stands}
use Rattle.block_walk.specs.Worlds.{World, world}
use Rattle.block_walk.proofs.LoopFacts.{on_err}
use Rattle.cursor_executor.specs.declared.courses.Course.{Course}
use Rattle.cursor_executor.specs.Courses.{IsCourse, walk_fetched}
use Rattle.cursor_executor.specs.Fetching.{steps_of}
use Rattle.cursor_executor.specs.Operations.{guide_at, normal_at}
use Rattle.cursor_executor.specs.Turns.{HasRun, Stepped}
use Rattle.cursor_executor.proofs.StepFacts.{IsAsked, block_fits, place_inside, step_asked, step_course, step_finished, step_ran, step_spent, step_stepped, taken_is}
use Rattle.cursor_executor.proofs.courses.step_block.Given as given
use Rattle.cursor_executor.proofs.courses.step_block.Goals.{After-guide_in-guide}
use Rattle.cursor_executor.proofs.courses.step_block.Goals as goal

pub block_at-block-requires : goal.block_at-block-requires
block_at-block-requires g c =
    let w = world (g.P.AccessPort.rows c.args.port.now) (g.P.AccessPort.accesses c.args.port.now) in
    let prepared = c.args.prepared.now in
    let req = c.requires in
    subst (λ n. n < length prepared.normals) (sym c.len-at.ensures)
    (block_fits w prepared req.fits c.args.course.now req.course c.args.place req.at req.agrees).normal

pub plan_at-plan-requires : goal.plan_at-plan-requires
plan_at-plan-requires g c =
    let w = world (g.P.AccessPort.rows c.args.port.now) (g.P.AccessPort.accesses c.args.port.now) in
    let prepared = c.args.prepared.now in
    let req = c.requires in
    subst (λ n. n < length prepared.derivations) (sym c.len-at.ensures)
    (block_fits w prepared req.fits c.args.course.now req.course c.args.place req.at req.agrees).plan

-- the turn is asked over what the code has read
asked : (g : given.Over) (c : After-guide_in-guide g)
    → IsAsked (world (g.P.AccessPort.rows c.args.port.now) (g.P.AccessPort.accesses c.args.port.now)) c.block_at-block.result.now
    (option_copied c.guide_in-guide.result) c.plan_at-plan.result.now c.args.course.now.walk
asked g c =
    let w = world (g.P.AccessPort.rows c.args.port.now) (g.P.AccessPort.accesses c.args.port.now) in
    let prepared = c.args.prepared.now in
    let old = c.args.course.now in
    let req = c.requires in
    step_asked w prepared req.fits old req.course c.args.place req.at req.agrees
    c.block_at-block.result.now (option_copied c.guide_in-guide.result) c.plan_at-plan.result.now
    (c.block_at-block.ensures ∙ ap (normal_at prepared) c.len-at.ensures)
    (c.guide_in-guide.ensures ∙ ap (λ s. guide_at s c.args.place) c.as_slice-stack.ensures.value)
    (c.plan_at-plan.ensures ∙ ap (steps_of prepared) c.len-at.ensures)
    old.walk refl

pub block_turn-requires-clause-classes : goal.block_turn-requires-clause-classes
block_turn-requires-clause-classes g c = (asked g (goal.at.block_turn-requires-clause-classes g c).After-guide_in-guide).classes

pub block_turn-requires-clause-constants : goal.block_turn-requires-clause-constants
block_turn-requires-clause-constants g c = (asked g (goal.at.block_turn-requires-clause-constants g c).After-guide_in-guide).constants

pub block_turn-requires-clause-fits : goal.block_turn-requires-clause-fits
block_turn-requires-clause-fits g c = (asked g (goal.at.block_turn-requires-clause-fits g c).After-guide_in-guide).fits

pub block_turn-requires-clause-sound : goal.block_turn-requires-clause-sound
block_turn-requires-clause-sound g c = (asked g (goal.at.block_turn-requires-clause-sound g c).After-guide_in-guide).sound

pub block_turn-requires-clause-walk : goal.block_turn-requires-clause-walk
block_turn-requires-clause-walk g c = (asked g (goal.at.block_turn-requires-clause-walk g c).After-guide_in-guide).stands

pub block_turn-requires-clause-agrees : goal.block_turn-requires-clause-agrees
block_turn-requires-clause-agrees g c = (asked g (goal.at.block_turn-requires-clause-agrees g c).After-guide_in-guide).agrees

pub returns-in_err-reads-clause-spent : goal.returns-in_err-reads-clause-spent
returns-in_err-reads-clause-spent g c =
    let w = world (g.P.AccessPort.rows c.args.port.now) (g.P.AccessPort.accesses c.args.port.now) in
    let prepared = c.args.prepared.now in
    let old = c.args.course.now in
    let req = c.requires in
    on_err c.from_residual.result (step_spent w prepared req.fits old req.course c.args.place req.at req.agrees
    c.block_at-block.result.now (option_copied c.guide_in-guide.result) c.plan_at-plan.result.now
    (c.block_at-block.ensures ∙ ap (normal_at prepared) c.len-at.ensures)
    (c.guide_in-guide.ensures ∙ ap (λ s. guide_at s c.args.place) c.as_slice-stack.ensures.value)
    (c.plan_at-plan.ensures ∙ ap (steps_of prepared) c.len-at.ensures)
    old.walk refl
    c.args.steps.now c.block_turn.new.steps c.in_err-reads.ensures.spent)

-- the course after a turn that made a probe
module _ (g : given.Over) (c : goal.Then-is_some g) where
  abbrev turned_world : World
  turned_world = world (g.P.AccessPort.rows c.args.port.now) (g.P.AccessPort.accesses c.args.port.now)

  abbrev turned_course : Course
  turned_course = let old = c.args.course.now in
      record { operations = old.operations; position = old.position; stack = old.stack; finished = old.finished; walk = c.block_turn.new.walk }

  turned : IsCourse c.args.prepared.now turned_course
      × Stepped turned_world c.args.prepared.now c.in_ok-reads.reads c.args.course.now turned_course c.args.steps.now c.block_turn.new.steps
  turned =
      let req = c.requires in
      let normal_is = c.block_at-block.ensures ∙ ap (normal_at c.args.prepared.now) c.len-at.ensures in
      let own_is = c.guide_in-guide.ensures ∙ ap (λ s. guide_at s c.args.place) c.as_slice-stack.ensures.value in
      let steps_is = c.plan_at-plan.ensures ∙ ap (steps_of c.args.prepared.now) c.len-at.ensures in
      let did = c.in_ok-reads.ensures.turned in (
        step_course turned_world c.args.prepared.now req.fits c.args.course.now req.course c.args.place req.at req.agrees
            c.block_at-block.result.now (option_copied c.guide_in-guide.result) c.plan_at-plan.result.now normal_is own_is steps_is
            c.args.course.now.walk refl did.found did.tidy did.stands c.in_ok-reads.reads c.args.steps.now c.block_turn.new.steps did.turn
            turned_course refl refl refl refl did.is,
        step_stepped turned_world c.args.prepared.now req.fits c.args.course.now req.course c.args.place req.at req.agrees
            c.block_at-block.result.now (option_copied c.guide_in-guide.result) c.plan_at-plan.result.now normal_is own_is steps_is
            c.args.course.now.walk refl did.found did.tidy did.stands c.in_ok-reads.reads c.args.steps.now c.block_turn.new.steps did.turn
            turned_course refl refl refl refl did.is (sym c.is_some.ensures ∙ c.if-is_some.true),
      )

pub returns-then-is_some-clause-course : goal.returns-then-is_some-clause-course
returns-then-is_some-clause-course g c = (turned g c).0

pub returns-then-is_some-clause-stepped : goal.returns-then-is_some-clause-stepped
returns-then-is_some-clause-stepped g c = (turned g c).1

pub finish_block-requires-clause-position : goal.finish_block-requires-clause-position
finish_block-requires-clause-position g c =
    let w = world (g.P.AccessPort.rows c.args.port.now) (g.P.AccessPort.accesses c.args.port.now) in
    let prepared = c.args.prepared.now in
    let req = c.requires in
    place_inside w prepared req.fits c.args.course.now req.course c.args.place req.at req.agrees

-- the course after a block's last turn
module _ (g : given.Over) (c : goal.In_ok-finish_block g) where
  abbrev ended_world : World
  ended_world = world (g.P.AccessPort.rows c.args.port.now) (g.P.AccessPort.accesses c.args.port.now)

  ended : IsCourse c.args.prepared.now c.finish_block.new.course
      × HasRun c.args.course.now c.finish_block.new.course c.args.steps.now c.block_turn.new.steps
  ended =
      let req = c.requires in
      let old = c.args.course.now in
      let normal_is = c.block_at-block.ensures ∙ ap (normal_at c.args.prepared.now) c.len-at.ensures in
      let own_is = c.guide_in-guide.ensures ∙ ap (λ s. guide_at s c.args.place) c.as_slice-stack.ensures.value in
      let steps_is = c.plan_at-plan.ensures ∙ ap (steps_of c.args.prepared.now) c.len-at.ensures in
      let did = c.in_ok-finish_block.ensures in
      let r = route c.block_at-block.result.now (option_copied c.guide_in-guide.result) c.plan_at-plan.result.now in
      let did_turn = c.in_ok-reads.ensures.turned in
      let same = taken_is ended_world r c.in_ok-reads.reads old.walk c.block_turn.new.walk c.args.steps.now c.block_turn.new.steps did_turn
      c.in-Some.walk c.in-Some.is in
      let tidy = subst (IsTidy r) same did_turn.tidy in
      let stands = subst (Stands r) same did_turn.stands in
      let after = subst (λ found. TurnIs ended_world r c.in_ok-reads.reads (walk_fetched old.walk) found c.args.steps.now c.block_turn.new.steps) same
      did_turn.turn in
      let none_made = sym c.is_some.ensures ∙ c.if-is_some.false in (
        step_finished ended_world c.args.prepared.now req.fits old req.course c.args.place req.at req.agrees
            c.block_at-block.result.now (option_copied c.guide_in-guide.result) c.plan_at-plan.result.now normal_is own_is steps_is
            old.walk refl c.in-Some.walk tidy stands c.in_ok-reads.reads c.args.steps.now c.block_turn.new.steps after none_made
            c.answer-rows.new.walk c.answer-rows.ensures.fetched c.answer-rows.result c.answer-rows.ensures.rows c.finish_block.new.course
            did.operations did.position did.stack (did.finished c.answer-rows.new.walk refl) did.walk,
        step_ran ended_world c.args.prepared.now req.fits old req.course c.args.place req.at req.agrees
            c.block_at-block.result.now (option_copied c.guide_in-guide.result) c.plan_at-plan.result.now normal_is own_is steps_is
            old.walk refl c.in-Some.walk tidy stands c.in_ok-reads.reads c.args.steps.now c.block_turn.new.steps after none_made
            c.answer-rows.new.walk c.answer-rows.ensures.fetched c.answer-rows.result c.answer-rows.ensures.rows c.finish_block.new.course
            did.operations did.position did.stack (did.finished c.answer-rows.new.walk refl) did.walk,
      )

pub returns-in_ok-finish_block-clause-course : goal.returns-in_ok-finish_block-clause-course
returns-in_ok-finish_block-clause-course g c = (ended g c).0

pub returns-in_ok-finish_block-clause-stepped : goal.returns-in_ok-finish_block-clause-stepped
returns-in_ok-finish_block-clause-stepped g c = (ended g c).1

pub answer-rows-requires-clause-stands : goal.answer-rows-requires-clause-stands
answer-rows-requires-clause-stands g c =
    let w = world (g.P.AccessPort.rows c.args.port.now) (g.P.AccessPort.accesses c.args.port.now) in
    let r = route c.block_at-block.result.now (option_copied c.guide_in-guide.result) c.plan_at-plan.result.now in
    let did_turn = c.in_ok-reads.ensures.turned in
    subst (Stands r) (taken_is w r c.in_ok-reads.reads c.args.course.now.walk c.block_turn.new.walk c.args.steps.now c.block_turn.new.steps did_turn
    c.in-Some.walk c.in-Some.is) did_turn.stands
