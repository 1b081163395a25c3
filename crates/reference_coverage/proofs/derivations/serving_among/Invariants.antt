use Rattle.std.proofs.Common.{◌≡◌, ◌&&◌, ◌==◌, take}
use Rattle.beas_core.specs.Coverage.{serves}
use Rattle.std.specs.List.{filter}
use Rattle.reference_coverage.proofs.derivations.serving_among.Given as goal

abbrev pub invariant-loop-candidate : goal.invariant-loop-candidate
invariant-loop-candidate l = l.ready.items ≡ filter (λ u. (u.atom == l.atom) && serves l.normal l.set u) (take l.candidate-index l.found)
