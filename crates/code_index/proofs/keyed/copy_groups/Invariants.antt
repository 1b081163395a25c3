use Rattle.std.proofs.Common.{◌≡◌, take}
use Rattle.code_index.proofs.keyed.copy_groups.Given as goal

-- the groups so far
abbrev pub invariant-loop-i : goal.invariant-loop-i
invariant-loop-i g l = l.copy.entries ≡ take l.i l.groups.entries
