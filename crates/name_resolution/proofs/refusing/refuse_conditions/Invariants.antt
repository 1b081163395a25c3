use Rattle.std.proofs.Common.{◌≡◌}
use Rattle.std.specs.List.{flat_map}
use Rattle.name_resolution.specs.Refusing.{first, flaws, sides}
use Rattle.name_resolution.proofs.FirstFacts.{first_from}
use Rattle.name_resolution.proofs.refusing.refuse_conditions.Given as goal

abbrev pub invariant-loop-condition : goal.invariant-loop-condition
invariant-loop-condition l = first_from (λ condition. flat_map (flaws l.flaw l.limit) (sides condition)) l.conditions l.condition-index
    ≡ first (flat_map (λ condition. flat_map (flaws l.flaw l.limit) (sides condition)) l.conditions)
