use Rattle.std.proofs.Common.{◌≡◌, ◌++◌, map, take, drop}
use Rattle.normal_form.specs.Labels.{replace}
use Rattle.normal_form.proofs.labels.relabel.Given as goal

abbrev pub invariant-loop-label : goal.invariant-loop-label
invariant-loop-label l = l.labels ≡ map (replace l.from l.to) (take l.label-index l.initial.labels) ++ drop l.label-index l.initial.labels
