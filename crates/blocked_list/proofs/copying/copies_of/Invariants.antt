use Rattle.std.proofs.Common.{◌≡◌, take}
use Rattle.blocked_list.proofs.copying.copies_of.Given as goal

-- the copies so far are those of the first items
abbrev pub invariant-loop-item : goal.invariant-loop-item
invariant-loop-item g l = l.copies.items ≡ take l.item-index l.items
