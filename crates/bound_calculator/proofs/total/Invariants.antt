use Rattle.std.proofs.Common.{◌≡◌, sum_by, take}
use Rattle.bound_calculator.proofs.total.Given as goal

abbrev pub invariant-loop-block : goal.invariant-loop-block
invariant-loop-block l = l.reads ≡ sum_by (λ s. s.reads) (take l.block-index l.sizes)
