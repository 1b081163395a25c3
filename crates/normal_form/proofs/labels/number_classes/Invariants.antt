use Rattle.std.proofs.Common.{◌≡◌, length, take}
use Rattle.normal_form.specs.Labels.{heads}
use Rattle.normal_form.proofs.Numbered.{part_way}
use Rattle.normal_form.proofs.labels.number_classes.Given as goal

abbrev pub invariant-loop-place : goal.invariant-loop-place
invariant-loop-place l = record {
  numbers : l.labels ≡ part_way l.initial.labels l.place;
  len : length l.labels ≡ length l.initial.labels;
  count : l.count ≡ length (heads (take l.place l.initial.labels));
}
