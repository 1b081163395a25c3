use Rattle.std.proofs.Common.{◌≡◌, map, take}
use Rattle.std.specs.List.{flat_map}
use Rattle.name_resolution.specs.LookedUp.{looked_up}
use Rattle.name_resolution.specs.Refusing.{first, repeated_aliases}
use Rattle.name_resolution.proofs.FirstFacts.{first_from}
use Rattle.name_resolution.proofs.binding.look_up_all.Given as goal

abbrev pub invariant-loop-block : goal.invariant-loop-block
invariant-loop-block l = record {
  so_far : l.all.items ≡ map (λ b. looked_up l.catalogue b.now) (take l.block-index l.blocks);
  once : first_from (λ b. repeated_aliases b.now) l.blocks l.block-index ≡ first (flat_map (λ b. repeated_aliases b.now) l.blocks);
}
