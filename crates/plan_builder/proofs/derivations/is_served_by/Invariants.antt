use Rattle.std.proofs.Common.{◌≡◌, false, take}
use Rattle.beas_core.specs.Derivations.{is_served_by}
use Rattle.plan_builder.proofs.derivations.is_served_by.Given as goal

abbrev pub invariant-loop-step : goal.invariant-loop-step
invariant-loop-step l = is_served_by l.block l.accesses (take l.step-index l.steps) l.atom ≡ false
