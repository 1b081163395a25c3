use Rattle.std.proofs.Common.{◌≡◌, length, take}
use Rattle.beas_core.specs.Derivations.{bound_after}
use Rattle.reference_coverage.proofs.derivations.bound_after.Given as goal

abbrev pub invariant-loop-step : goal.invariant-loop-step
invariant-loop-step l = record { set : l.set ≡ bound_after l.normal l.accesses l.start (take l.step-index l.steps); len : length l.set ≡ length l.start }
