use Rattle.std.proofs.Common.{◌≡◌, length}
use Rattle.name_resolution.specs.Refusing.{same_kinds}
use Rattle.name_resolution.proofs.refusing.same_kinds.Given as goal

abbrev pub invariant-loop-left_rest : goal.invariant-loop-left_rest
invariant-loop-left_rest l = same_kinds l.left_rest l.right_rest ≡ same_kinds l.left l.right

abbrev pub decreases-loop-left_rest : goal.decreases-loop-left_rest
decreases-loop-left_rest l = length l.left_rest
