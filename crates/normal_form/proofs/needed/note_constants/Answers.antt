use Rattle.normal_form.proofs.Used.{used_firsts}
use Rattle.normal_form.proofs.needed.note_constants.Goals as goal

pub loop-constant-preserved : goal.loop-constant-preserved
loop-constant-preserved c =
    let k = used_firsts c.args.places.now.atoms.now c.args.used.now c.args.constants.now c.loop-constant.constant-index c.constant-item.result
    c.loop-constant-test.true in
    cc
