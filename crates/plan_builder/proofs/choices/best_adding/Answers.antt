use Rattle.std.proofs.Common.{◌∙◌, ap}
use Rattle.std.specs.Option.{option_map}
use Rattle.attribute_closure.specs.Uses.{as_use}
use Rattle.plan_builder.specs.Choices.{may_add}
use Rattle.plan_builder.proofs.ChoiceFacts.{best_taken, best_left}
use Rattle.plan_builder.proofs.choices.best_adding.Goals as goal
use Rattle.plan_builder.proofs.choices.best_adding.Goals.{then-may-better, else-may-better}

pub loop-found-preserved : goal.loop-found-preserved
loop-found-preserved c = elim c.if-may-better.branch [
  | then-may-better w ↦ ap (option_map as_use) w.best-is
      ∙ best_taken (may_add c.args.block.now c.args.set.now) c.args.uses.now c.loop-found.found-index c.found-item.result
      c.loop-found-test.true c.found-item.is (option_map as_use c.loop-found.best) c.adds_now-may.result c.beats-better.result
      c.loop-found.invariant c.adds_now-may.ensures c.beats-better.ensures w.if-may-better.true
  | else-may-better w ↦ ap (option_map as_use) w.best-is
      ∙ best_left (may_add c.args.block.now c.args.set.now) c.args.uses.now c.loop-found.found-index c.found-item.result
      c.loop-found-test.true c.found-item.is (option_map as_use c.loop-found.best) c.adds_now-may.result c.beats-better.result
      c.loop-found.invariant c.adds_now-may.ensures c.beats-better.ensures w.if-may-better.false
]
