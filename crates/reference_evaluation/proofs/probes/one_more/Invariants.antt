use Rattle.std.proofs.Common.{◌≡◌, take}
use Rattle.reference_evaluation.proofs.probes.one_more.Given as goal

abbrev pub invariant-loop-before : goal.invariant-loop-before
invariant-loop-before l = l.more ≡ take l.before-index l.done
