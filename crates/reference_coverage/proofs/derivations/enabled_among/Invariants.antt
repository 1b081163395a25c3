use Rattle.std.proofs.Common.{◌≡◌, ◌&&◌, take}
use Rattle.beas_core.specs.Coverage.{holds_classes, key_classes}
use Rattle.beas_core.specs.Derivations.{adds_class}
use Rattle.std.specs.List.{filter}
use Rattle.reference_coverage.proofs.derivations.enabled_among.Given as goal

abbrev pub invariant-loop-candidate : goal.invariant-loop-candidate
invariant-loop-candidate l = l.ready.items ≡ filter (λ u. holds_classes l.set (key_classes l.normal u) && adds_class l.normal l.set u)
    (take l.candidate-index l.found)
