use Rattle.name_resolution.proofs.PartFacts.{parts_to}
use Rattle.name_resolution.proofs.building.add_conditions.Goals as goal

pub loop-condition-preserved : goal.loop-condition-preserved
loop-condition-preserved c =
    parts_to c.args.block.now c.loop-condition.block c.add_condition.new.block c.args.conditions.now c.loop-condition.condition-index c.condition-item.result
    c.loop-condition-test.true c.condition-item.is c.loop-condition.invariant c.in_ok-add_condition.ensures
