use Rattle.std.proofs.Common.{◌≡◌, take}
use Rattle.block_walk.proofs.ordered.copy_key.Given as goal

-- the values so far are the key's first
abbrev pub invariant-loop-value : goal.invariant-loop-value
invariant-loop-value l = l.copy.items ≡ take l.value-index l.key
