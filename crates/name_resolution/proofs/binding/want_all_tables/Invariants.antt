use Rattle.std.proofs.Common.{◌≡◌}
use Rattle.std.specs.List.{flat_map}
use Rattle.name_resolution.specs.Refusing.{first, unknown_tables}
use Rattle.name_resolution.proofs.FirstFacts.{first_from}
use Rattle.name_resolution.proofs.binding.want_all_tables.Given as goal

abbrev pub invariant-loop-block : goal.invariant-loop-block
invariant-loop-block l = first_from (λ b. unknown_tables l.catalogue b.now) l.blocks l.block-index ≡ first (flat_map
    (λ b. unknown_tables l.catalogue b.now) l.blocks)
