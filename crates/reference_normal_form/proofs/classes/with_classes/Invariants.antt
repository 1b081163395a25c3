use Rattle.std.proofs.Common.{◌≡◌, take}
use Rattle.beas_core.specs.Coverage.{with_classes}
use Rattle.reference_normal_form.proofs.classes.with_classes.Given as goal

abbrev pub invariant-loop-class : goal.invariant-loop-class
invariant-loop-class l = l.more.items ≡ with_classes l.set (take l.class-index l.classes)
