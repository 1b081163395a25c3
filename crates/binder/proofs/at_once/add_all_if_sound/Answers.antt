use Rattle.name_resolution.specs.Meanings.{condition}
use Rattle.name_resolution.specs.Scopes.{told_by}
use Rattle.binder.proofs.AtOnceFacts.{sound_to}
use Rattle.binder.proofs.at_once.add_all_if_sound.Goals as goal

pub loop-cond-preserved : goal.loop-cond-preserved
loop-cond-preserved c =
    sound_to c.args.limit c.args.block.now c.loop-cond.block c.look_up_and_add.new.block (condition (told_by c.args.names.now)) c.args.conditions.now
    c.loop-cond.cond-index c.cond-item.result c.loop-cond-test.true c.cond-item.is c.loop-cond.invariant (c.in_ok-look_up_and_add.ensures c.if-not-branch.false)
