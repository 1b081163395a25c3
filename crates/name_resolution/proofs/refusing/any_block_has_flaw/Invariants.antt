use Rattle.std.proofs.Common.{◌≡◌, take, false}
use Rattle.std.specs.List.{list_any}
use Rattle.name_resolution.specs.Refusing.{block_has_flaw}
use Rattle.name_resolution.proofs.refusing.any_block_has_flaw.Given as goal

abbrev pub invariant-loop-block : goal.invariant-loop-block
invariant-loop-block l = list_any (block_has_flaw l.limit) (take l.block-index l.blocks) ≡ false
