use Rattle.std.proofs.Common.{◌≡◌, map, take}
use Rattle.plan_builder.specs.Preparation.{place_name}
use Rattle.plan_builder.proofs.preparation.block_header.Given as goal

abbrev pub invariant-loop-place : goal.invariant-loop-place
invariant-loop-place l = l.header ≡ map (place_name l.catalogue l.block) (take l.place-index l.block.output)
