use Rattle.std.proofs.Common.{◌≡◌, ◌==◌, drop}
use Rattle.std.specs.List.{list_any}
use Rattle.partial_plan.proofs.used.has_step.Given as goal

abbrev pub invariant-loop-step : goal.invariant-loop-step
invariant-loop-step l =
    list_any (λ s. s.access.0 == l.id.0) l.steps ≡ list_any (λ s. s.access.0 == l.id.0) (drop l.step-index l.steps)
