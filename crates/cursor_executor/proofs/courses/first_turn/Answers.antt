use Rattle.std.proofs.Common.{refl, sym, subst}
use Rattle.std.specs.Option.{option_copied}
use Rattle.block_walk.specs.Routes.{route}
use Rattle.block_walk.specs.Turns.{TurnIs}
use Rattle.block_walk.specs.Worlds.{world}
use Rattle.cursor_executor.specs.Courses.{walk_fetched}
use Rattle.cursor_executor.proofs.courses.first_turn.Goals as goal

pub returns-in-Ok-clause-turned : goal.returns-in-Ok-clause-turned
returns-in-Ok-clause-turned g c =
    let w = world (g.P.AccessPort.rows c.args.port.now) (g.P.AccessPort.accesses c.args.port.now) in
    let r = route c.args.block.now (option_copied c.args.guide) c.args.plan.now in
    let did = c.in-Ok.ensures in
    let found = c.turn.new.walk in
    let here = subst (λ fs. TurnIs w r c.in-Ok.reads fs found c.args.steps.now c.turn.new.steps) c.in_ok-begun.ensures.fetched did.turn in
    record {
      found = found;
      is = refl;
      tidy = did.tidy;
      stands = did.stands;
      turn = subst (λ u. TurnIs w r c.in-Ok.reads (walk_fetched u) found c.args.steps.now c.turn.new.steps) (sym c.requires.none) here;
    }
