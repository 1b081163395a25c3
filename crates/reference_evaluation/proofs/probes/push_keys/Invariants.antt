use Rattle.std.proofs.Common.{◌≡◌, ◌++◌, map}
use Rattle.reference_evaluation.proofs.probes.push_keys.Given as goal

abbrev pub invariant-loop-key : goal.invariant-loop-key
invariant-loop-key l = l.found ≡ l.initial.found ++ map (λ key. record { step = l.step; key = key }) l.yielded
