use Rattle.std.proofs.Common.{◌≡◌, take}
use Rattle.beas_core.proofs.list.ListDuplicate.copy.Given as goal

-- the items so far are the list's first
abbrev pub invariant-loop-item : goal.invariant-loop-item
invariant-loop-item g l = l.items.items ≡ take l.item-index l.item-items
