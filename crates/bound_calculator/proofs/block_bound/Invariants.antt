use Rattle.std.proofs.Common.{◌≡◌, ◌+◌, drop}
use Rattle.beas_core.specs.Numbers.{announced_from, last_size}
use Rattle.bound_calculator.proofs.block_bound.Given as goal

abbrev pub invariant-loop-step : goal.invariant-loop-step
invariant-loop-step l = record {
  reads : announced_from l.accesses l.fn.first l.derivation.steps ≡ l.sizes.reads + announced_from l.accesses l.sizes.last
      (drop l.step-index l.derivation.steps);
  last : last_size l.accesses l.fn.first l.derivation.steps ≡ last_size l.accesses l.sizes.last (drop l.step-index l.derivation.steps);
}
