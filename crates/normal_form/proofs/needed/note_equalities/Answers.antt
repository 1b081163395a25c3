use Rattle.normal_form.proofs.Used.{used_pairs}
use Rattle.normal_form.proofs.needed.note_equalities.Goals as goal

pub loop-equality-preserved : goal.loop-equality-preserved
loop-equality-preserved c =
    let k = used_pairs c.args.places.now.atoms.now c.args.used.now c.args.equalities.now c.loop-equality.equality-index
    (record { atom = 0; column = record { 0 = 0 } }, record { atom = 0; column = record { 0 = 0 } }) c.loop-equality-test.true in
    cc
