use Rattle.std.proofs.Common.{◌≡◌}
use Rattle.std.specs.List.{enumerate_from}
use Rattle.beas_core.specs.declared.refusal.Refusal.TheVariants.{MixedTypes}
use Rattle.name_resolution.specs.Refusing.{first, mixed_types, refusals_if, is_mixed}
use Rattle.name_resolution.proofs.FirstFacts.{first_from}
use Rattle.name_resolution.proofs.refusing.refuse_mixed.Given as goal

abbrev pub invariant-loop-place : goal.invariant-loop-place
invariant-loop-place l =
    first_from (λ c. refusals_if (is_mixed c.1) (MixedTypes l.number c.0)) (enumerate_from 1 l.conditions) l.place ≡ first (mixed_types l.number l.conditions)
