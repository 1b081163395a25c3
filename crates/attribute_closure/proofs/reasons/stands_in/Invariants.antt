use Rattle.std.proofs.Common.{◌≡◌, false, take}
use Rattle.beas_core.specs.Groups.{has_column}
use Rattle.attribute_closure.proofs.reasons.stands_in.Given as goal

abbrev pub invariant-loop-other : goal.invariant-loop-other
invariant-loop-other l = has_column (take l.other-index l.columns) l.column ≡ false
