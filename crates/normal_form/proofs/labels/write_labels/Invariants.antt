use Rattle.std.proofs.Common.{map, reverse}
use Rattle.normal_form.specs.Labels.{AreLabels}
use Rattle.normal_form.proofs.labels.write_labels.Given as goal

abbrev pub invariant-loop-equality : goal.invariant-loop-equality
invariant-loop-equality l = AreLabels l.places.atoms.now (reverse (map (λ e. e.now) l.yielded)) l.labels
