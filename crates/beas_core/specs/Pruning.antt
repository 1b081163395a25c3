-- Which steps of a derivation may go.
--     with_adds normal accesses set steps          the steps, each saying anew whether it adds a class, from a set of bound classes on
--     shorter normal accesses start n steps        the steps but for the one at place n, each saying anew whether it adds a class
--     capped_number accesses steps                 the announced number where one valuation stands before the first step, or 2^128 where it is greater
--     may_go normal accesses start n steps         without it the steps are sound, and their capped number is no greater
--     pruned normal accesses start steps           the steps that are left after each, from the last to the first, has gone where it may
--     derivation normal accesses start             the canonical derivation, nothing where the block isn't covered
use Rattle.std.specs.Prelude.{◌&&◌, ◌+◌, if◌then◌else◌, Bool, not, nat_lt, ℕ, zero, suc, List, [], ◌∷◌, ◌++◌, length, take, drop, Option, option_map}
use Rattle.beas_core.specs.declared.schema.Access.{Access}
use Rattle.beas_core.specs.declared.plan.DStep.{DStep}
use Rattle.beas_core.specs.declared.plan.Normal.{Normal}
use Rattle.beas_core.specs.Types.{ClassSet}
use Rattle.beas_core.specs.Coverage.{constant_classes}
use Rattle.beas_core.specs.Derivations.{use_of, bound_by, adds_class, is_sound, greedy_steps}
use Rattle.beas_core.specs.Numbers.{announced_from, cap}

abbrev pub with_adds : Normal → List Access → ClassSet → List DStep → List DStep
with_adds normal accesses set [] = []
with_adds normal accesses set (s ∷ steps) =
    record { atom = s.atom; access = s.access; adds = adds_class normal set (use_of accesses s) }
    ∷ with_adds normal accesses (bound_by normal accesses set s) steps

-- the steps but for the one at this place
abbrev pub without : ℕ → List DStep → List DStep
without n steps = take n steps ++ drop (n + 1) steps

abbrev pub shorter : Normal → List Access → ClassSet → ℕ → List DStep → List DStep
shorter normal accesses start n steps = with_adds normal accesses start (without n steps)

abbrev pub capped_number : List Access → List DStep → ℕ
capped_number accesses steps = cap (announced_from accesses 1 steps)

abbrev pub may_go : Normal → List Access → ClassSet → ℕ → List DStep → Bool
may_go normal accesses start n steps =
    is_sound normal accesses start (shorter normal accesses start n steps)
    && not (nat_lt (capped_number accesses steps) (capped_number accesses (shorter normal accesses start n steps)))

abbrev pub pruned_at : Normal → List Access → ClassSet → ℕ → List DStep → List DStep
pruned_at normal accesses start n steps = if may_go normal accesses start n steps then shorter normal accesses start n steps else steps

-- the steps at places below n are tried, the last first, so that places up to the one that is tried are as they were
abbrev pub pruned_below : Normal → List Access → ClassSet → ℕ → List DStep → List DStep
pruned_below normal accesses start zero steps = steps
pruned_below normal accesses start (suc n) steps = pruned_below normal accesses start n (pruned_at normal accesses start n steps)

abbrev pub pruned : Normal → List Access → ClassSet → List DStep → List DStep
pruned normal accesses start steps = pruned_below normal accesses start (length steps) steps

unfoldable pub derivation : Normal → List Access → ClassSet → Option (List DStep)
derivation normal accesses start = option_map (pruned normal accesses start) (greedy_steps normal accesses start)

-- of a block by itself
abbrev pub own_derivation : Normal → List Access → Option (List DStep)
own_derivation normal accesses = derivation normal accesses (constant_classes normal)
