use Rattle.std.proofs.Common.{take}
use Rattle.attribute_closure.specs.Uses.{as_use}
use Rattle.specialise.proofs.Filled.{key_inside}
use Rattle.specialise.proofs.rules.add_rules.Goals as goal

pub add_rule-requires : goal.add_rule-requires
add_rule-requires c =
    key_inside c.args.block.now c.args.candidates.now c.args.table.now c.loop-use_at.table (take c.loop-use_at.use_at-index c.args.found.now)
    c.loop-use_at.invariant c.requires.sets c.rule_of.result (as_use c.use_at-item.result) c.rule_of.ensures
