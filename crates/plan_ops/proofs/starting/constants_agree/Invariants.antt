use Rattle.std.proofs.Common.{◌≡◌, true, take}
use Rattle.std.specs.List.{list_all}
use Rattle.beas_core.specs.Full.{same_value}
use Rattle.beas_core.specs.Valuations.{value_of}
use Rattle.plan_ops.proofs.starting.constants_agree.Given as goal

abbrev pub invariant-loop-constant : goal.invariant-loop-constant
invariant-loop-constant l = list_all (λ b. same_value b.1 (value_of l.constants b.0)) (take l.constant-index l.constants) ≡ true
