use Rattle.std.proofs.Common.{◌≡◌, ◌<◌, ℕ, length}
use Rattle.normal_form.specs.Labels.{label_at}
use Rattle.normal_form.proofs.labels.label_each.Given as goal

abbrev pub invariant-loop-place : goal.invariant-loop-place
invariant-loop-place l = record {
  own : (k : ℕ) → k < l.place → label_at l.labels k ≡ k;
  long : length l.labels ≡ length l.initial.labels;
}
