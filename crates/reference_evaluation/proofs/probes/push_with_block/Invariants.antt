use Rattle.std.proofs.Common.{◌≡◌, ◌++◌, map}
use Rattle.reference_evaluation.proofs.probes.push_with_block.Given as goal

abbrev pub invariant-loop-probe : goal.invariant-loop-probe
invariant-loop-probe l = l.all ≡ l.initial.all ++ map (λ p. record { block = l.block; probe = p }) l.yielded
