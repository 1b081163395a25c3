use Rattle.std.proofs.Common.{◌<◌, ◌∙◌, ap, arith, length, length-set, set}
use Rattle.normal_form.specs.Labels.{label_at}
use Rattle.normal_form.proofs.Joined.{own_written}
use Rattle.normal_form.proofs.labels.label_each.Goals as goal

pub loop-place-preserved : goal.loop-place-preserved
loop-place-preserved c =
    let labels = c.loop-place.labels in
    let place = c.loop-place.place in
    let now = c.loop-place.invariant in
    let inside : place < length labels = omega (arith, c.loop-place-test.true, now.long, c.requires.full) in
    record {
      own = λ k b. ap (λ i. label_at (set labels i place) k) c.from.ensures ∙ own_written labels place inside now.own k b;
      long = length-set labels c.from.result place ∙ now.long;
    }
