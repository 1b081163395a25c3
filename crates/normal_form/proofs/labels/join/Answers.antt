use Rattle.std.proofs.Common.{ap, rules}
use Rattle.normal_form.specs.Labels.{label_at}
use Rattle.normal_form.proofs.Joined.{labels_apart}
use Rattle.normal_form.proofs.labels.join.Goals as goal

pub returns-then-left-right : goal.returns-then-left-right
returns-then-left-right c = λ es are.
    labels_apart c.args.places.now.atoms.now es c.args.equality.now c.args.labels.now c.relabel.new.labels (label_at c.args.labels.now c.number.result)
    (label_at c.args.labels.now c.number-2.result) are
    c.requires.left c.requires.right (ap (label_at c.args.labels.now) c.number.ensures.number) (ap (label_at c.args.labels.now) c.number-2.ensures.number)
    c.if-left-right.true (search rules)
