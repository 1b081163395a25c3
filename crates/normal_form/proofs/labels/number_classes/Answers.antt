use Rattle.std.proofs.Common.{◌≡◌, ◌≢◌, ◌<◌, ◌+◌, ◌∙◌, ap, refl, sym, arith, length, get_or}
use Rattle.normal_form.specs.Labels.{label_at}
use Rattle.normal_form.proofs.Numbered.{count_new, count_old, label_here, put_new, put_old}
use Rattle.normal_form.proofs.labels.number_classes.Goals as goal
use Rattle.normal_form.proofs.labels.number_classes.Goals.{then-first-place, else-first-place}

pub loop-place-preserved : goal.loop-place-preserved
loop-place-preserved c =
    let labels = c.args.labels.now in
    let first = c.requires.first in
    let place = c.loop-place.place in
    let numbers = c.loop-place.labels in
    let now = c.loop-place.invariant in
    let below : place < length labels = omega (arith, c.loop-place-test.true, c.requires.full) in
    let label : c.from-first.result ≡ label_at labels place = c.from-first.ensures ∙ label_here labels place first below numbers now.numbers 0 in
    elim c.if-first-place.branch [
      | then-first-place w ↦ (
          let own : label_at labels place ≡ place = sym label ∙ w.if-first-place.true in
          record {
            numbers = w.labels-is ∙ put_new labels place first below numbers now.numbers c.loop-place.count now.count own;
            len = c.if-first-place.auto.labels ∙ now.len;
            count = w.count-is ∙ ap (λ n. n + 1) now.count ∙ sym (count_new labels place first below own);
          })
      | else-first-place w ↦ (
          let other : label_at labels place ≢ place = λ e. w.if-first-place.false (label ∙ e) in
          record {
            numbers = w.labels-is ∙ put_old labels place first below numbers now.numbers c.from-first.result (get_or numbers c.from-first.result 0) label other refl;
            len = c.if-first-place.auto.labels ∙ now.len;
            count = w.count-is ∙ now.count ∙ sym (count_old labels place first below other);
          })
    ]
