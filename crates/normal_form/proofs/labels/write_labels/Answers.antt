use Rattle.normal_form.proofs.Joined.{labels_walked}
use Rattle.normal_form.proofs.labels.write_labels.Goals as goal

pub loop-equality-preserved : goal.loop-equality-preserved
loop-equality-preserved c =
    labels_walked c.args.places.now.atoms.now c.loop-equality.yielded c.in-Some.equality c.loop-equality.labels c.join.new.labels
    c.join.ensures c.loop-equality.invariant
