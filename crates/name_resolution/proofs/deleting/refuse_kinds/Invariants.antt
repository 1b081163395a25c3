use Rattle.std.proofs.Common.{◌≡◌, []}
use Rattle.name_resolution.specs.Binding.{places_of_kinds}
use Rattle.name_resolution.specs.Refusing.{first, places}
use Rattle.name_resolution.proofs.FirstFacts.{first_from}
use Rattle.name_resolution.proofs.deleting.refuse_kinds.Given as goal

abbrev pub invariant-loop-kind : goal.invariant-loop-kind
invariant-loop-kind l = first_from (λ kind. places kind l.limits [] (1, l.block)) l.kinds l.kind-index ≡ first (places_of_kinds l.limits l.block l.kinds)
