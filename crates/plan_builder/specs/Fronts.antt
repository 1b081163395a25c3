-- Fronts of derivations.
--     size_from normal set b us             how many valuations the steps of these uses leave at most, where b stand before the first
--     SizesAre normal start us sizes        these are the sizes of their steps, where one valuation stands before the first
--     IsFront normal start us front         this is what the uses come to
--     IsKept normal start kept              these uses are sound, and have these sizes
use Rattle.std.specs.Prelude.{◌≡◌, ◌≤◌, ◌<◌, ◌^◌, ℕ, List, [], ◌∷◌, map, IsTrue, IfSome, MatchOption, Option, Some, None}
use Rattle.beas_core.specs.declared.plan.Normal.{Normal}
use Rattle.beas_core.specs.declared.plan.Sizes.{Sizes}
use Rattle.beas_core.specs.Types.{ClassSet, Use}
use Rattle.beas_core.specs.Derivations.{with_use}
use Rattle.attribute_closure.specs.Uses.{as_use}
use Rattle.plan_builder.specs.declared.fronts.Front.{Front}
use Rattle.plan_builder.specs.declared.pruning.Kept.{Kept}
use Rattle.plan_builder.specs.Trials.{are_sound, more_size, number_from, set_after}

abbrev pub size_from : Normal → ClassSet → ℕ → List Use → ℕ
size_from normal set b [] = b
size_from normal set b (u ∷ us) = size_from normal (with_use normal set u) (more_size normal set b u) us

abbrev pub sizes_from : Normal → ClassSet → List Use → Sizes
sizes_from normal start us = record { reads = number_from normal start 1 us; last = size_from normal start 1 us }

pub record SizesAre (normal : Normal) (start : ClassSet) (us : List Use) (sizes : Option Sizes) : Type 0 where
  pub are : MatchOption sizes (2 ^ 128 ≤ number_from normal start 1 us) (λ s. s ≡ sizes_from normal start us)
  pub small : IfSome sizes (λ s. s.reads < 2 ^ 128)

pub record IsFront (normal : Normal) (start : ClassSet) (us : List Use) (front : Front) : Type 0 where
  pub set : front.set.items ≡ set_after normal start us
  pub sizes : SizesAre normal start us front.sizes

pub record IsKept (normal : Normal) (start : ClassSet) (kept : Kept) : Type 0 where
  pub sound : IsTrue (are_sound normal start (map as_use kept.uses))
  pub sizes : SizesAre normal start (map as_use kept.uses) kept.sizes

-- no sizes stand for a number past 2^128 - 1
abbrev pub reads_or_cap : Option Sizes → ℕ
reads_or_cap None = 2 ^ 128
reads_or_cap (Some sizes) = sizes.reads
