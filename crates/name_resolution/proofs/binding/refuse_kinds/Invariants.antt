use Rattle.std.proofs.Common.{◌≡◌}
use Rattle.std.specs.List.{flat_map}
use Rattle.name_resolution.specs.Binding.{places_in_all}
use Rattle.name_resolution.specs.Refusing.{first}
use Rattle.name_resolution.proofs.FirstFacts.{first_from}
use Rattle.name_resolution.proofs.binding.refuse_kinds.Given as goal

abbrev pub invariant-loop-kind : goal.invariant-loop-kind
invariant-loop-kind l = first_from (places_in_all l.limits l.shape l.blocks) l.kinds l.kind-index ≡ first (flat_map
    (places_in_all l.limits l.shape l.blocks) l.kinds)
