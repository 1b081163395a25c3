-- Derivations as lists of uses of constraints, by which a step is tried and dropped: which of them add a class follows from the start.
--     steps_from normal set us          the steps of the uses, each saying whether it adds a class
--     keys_are_bound normal set us      the key of each use is bound before it
--     number_from normal set b us       the reads of its steps at most, where b valuations stand before the first
--     are_sound normal start us         the keys are bound, and after the last use all that the block needs is, and each atom is served
--     uses_pruned normal start us       those that are left after each, from the last to the first, has gone where it may
use Rattle.std.specs.Prelude.{◌&&◌, ◌+◌, ◌*◌, if◌then◌else◌, Bool, true, not, nat_lt, ℕ, zero, suc, List, [], ◌∷◌, ◌++◌, length, fold, take, drop}
use Rattle.std.specs.List.{list_any, list_all}
use Rattle.beas_core.specs.declared.plan.DStep.{DStep}
use Rattle.beas_core.specs.declared.plan.Normal.{Normal}
use Rattle.beas_core.specs.Types.{ClassSet, Use}
use Rattle.beas_core.specs.Coverage.{atoms_of, holds_classes, is_open, key_classes, needed_places}
use Rattle.beas_core.specs.Derivations.{adds_class, step_of, with_use}
use Rattle.beas_core.specs.Numbers.{cap}
use Rattle.plan_builder.specs.Plans.{served_among}

abbrev pub steps_from : Normal → ClassSet → List Use → List DStep
steps_from normal set [] = []
steps_from normal set (u ∷ us) = step_of normal set u ∷ steps_from normal (with_use normal set u) us

abbrev pub keys_are_bound : Normal → ClassSet → List Use → Bool
keys_are_bound normal set [] = true
keys_are_bound normal set (u ∷ us) = holds_classes set (key_classes normal u) && keys_are_bound normal (with_use normal set u) us

abbrev pub set_after : Normal → ClassSet → List Use → ClassSet
set_after normal set us = fold (with_use normal) set us

abbrev pub more_size : Normal → ClassSet → ℕ → Use → ℕ
more_size normal set b u = if adds_class normal set u then b * u.access.bound else b

abbrev pub number_from : Normal → ClassSet → ℕ → List Use → ℕ
number_from normal set b [] = 0
number_from normal set b (u ∷ us) = b * u.access.bound + number_from normal (with_use normal set u) (more_size normal set b u) us

abbrev pub binds_needed : Normal → ClassSet → Bool
binds_needed normal set = not (list_any (is_open normal set) (needed_places normal))

abbrev pub all_are_served : Normal → List Use → Bool
all_are_served normal us = list_all (λ atom. served_among normal atom us) (atoms_of normal)

abbrev pub are_sound : Normal → ClassSet → List Use → Bool
are_sound normal start us =
    keys_are_bound normal start us && binds_needed normal (set_after normal start us) && all_are_served normal us

abbrev pub capped_uses : Normal → ClassSet → List Use → ℕ
capped_uses normal start us = cap (number_from normal start 1 us)

abbrev pub uses_without : {A : Type 0} → ℕ → List A → List A
uses_without n us = take n us ++ drop (n + 1) us

abbrev pub use_may_go : Normal → ClassSet → ℕ → List Use → Bool
use_may_go normal start n us =
    are_sound normal start (uses_without n us)
    && not (nat_lt (capped_uses normal start us) (capped_uses normal start (uses_without n us)))

abbrev pub uses_pruned_at : Normal → ClassSet → ℕ → List Use → List Use
uses_pruned_at normal start n us = if use_may_go normal start n us then uses_without n us else us

abbrev pub uses_pruned_below : Normal → ClassSet → ℕ → List Use → List Use
uses_pruned_below normal start zero us = us
uses_pruned_below normal start (suc n) us = uses_pruned_below normal start n (uses_pruned_at normal start n us)

abbrev pub uses_pruned : Normal → ClassSet → List Use → List Use
uses_pruned normal start us = uses_pruned_below normal start (length us) us
