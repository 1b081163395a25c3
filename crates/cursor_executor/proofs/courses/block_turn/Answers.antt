use Rattle.std.proofs.Common.{subst}
use Rattle.std.specs.Option.{option_copied}
use Rattle.block_walk.specs.Routes.{route}
use Rattle.block_walk.specs.Worlds.{AgreesWith, world}
use Rattle.cursor_executor.specs.Courses.{walk_fetched}
use Rattle.cursor_executor.proofs.StepFacts.{after_turn}
use Rattle.cursor_executor.proofs.courses.block_turn.Goals as goal

pub turn-requires-clause-agrees : goal.turn-requires-clause-agrees
turn-requires-clause-agrees g c =
    let w = world (g.P.AccessPort.rows c.args.port.now) (g.P.AccessPort.accesses c.args.port.now) in
    subst (λ u. AgreesWith w c.args.plan.now (walk_fetched u)) c.in-Some.is c.requires.agrees

pub returns-in-Some-clause-turned : goal.returns-in-Some-clause-turned
returns-in-Some-clause-turned g c =
    let w = world (g.P.AccessPort.rows c.args.port.now) (g.P.AccessPort.accesses c.args.port.now) in
    let r = route c.args.block.now (option_copied c.args.guide) c.args.plan.now in
    let did = c.turn.ensures in
    after_turn w r c.turn.result c.args.walk.now c.in-Some.walk c.turn.new.walk c.args.steps.now c.turn.new.steps c.in-Some.is did.tidy did.stands did.turn
