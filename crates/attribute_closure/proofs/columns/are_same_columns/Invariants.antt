use Rattle.std.proofs.Common.{◌≡◌, take}
use Rattle.attribute_closure.proofs.columns.are_same_columns.Given as goal

-- the first columns are the same
abbrev pub invariant-loop-i : goal.invariant-loop-i
invariant-loop-i l = take l.i l.one ≡ take l.i l.other
