use Rattle.std.proofs.Common.{◌≡◌, map, take}
use Rattle.name_resolution.specs.LookedUp.{bound_block}
use Rattle.name_resolution.proofs.binding.bound_blocks.Given as goal

abbrev pub invariant-loop-block : goal.invariant-loop-block
invariant-loop-block l = l.all.items ≡ map bound_block (take l.block-index l.blocks)
