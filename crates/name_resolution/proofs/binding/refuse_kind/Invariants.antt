use Rattle.std.proofs.Common.{◌≡◌}
use Rattle.std.specs.List.{enumerate_from}
use Rattle.name_resolution.specs.Binding.{places_in_all}
use Rattle.name_resolution.specs.Refusing.{first, places}
use Rattle.name_resolution.proofs.FirstFacts.{first_from}
use Rattle.name_resolution.proofs.binding.refuse_kind.Given as goal

abbrev pub invariant-loop-place : goal.invariant-loop-place
invariant-loop-place l = first_from (places l.kind l.limits l.shape) (enumerate_from 1 l.blocks) l.place ≡ first
    (places_in_all l.limits l.shape l.blocks l.kind)
