-- What a walk of a block goes through.
--     Route                  a block's normal form, what guides it, and the steps of its derivation
--     IsSoundIn w route      what is asked of a route in a world
--     all_probes w route     the probes of the derivation
use Rattle.std.specs.Prelude.{◌+◌, ◌==◌, ℕ, Bool, length, false, List, slice_index_or, is_some}
use Rattle.beas_core.specs.declared.plan.DStep.{DStep}
use Rattle.beas_core.specs.declared.plan.Normal.{Normal}
use Rattle.beas_core.specs.Types.{Row, ClassSet, Guide}
use Rattle.beas_core.specs.Coverage.{start_classes}
use Rattle.beas_core.specs.Derivations.{IsSound}
use Rattle.beas_core.specs.Reads.{Probe, probes}
use Rattle.block_walk.specs.Worlds.{World}

pub record Route : Type 0 where
  pub normal : Normal
  pub guide : Guide
  pub steps : List DStep

abbrev pub route : Normal → Guide → List DStep → Route
route normal guide steps = record { normal = normal; guide = guide; steps = steps }

abbrev pub first_classes : Route → ClassSet
first_classes r = start_classes r.normal (is_some r.guide)

-- what is asked of a route in a world
abbrev pub IsSoundIn : World → Route → Type 0
IsSoundIn w r = IsSound r.normal w.accesses (first_classes r) r.steps

abbrev pub all_probes : World → Route → List Probe
all_probes w r = probes w.rows r.normal w.accesses r.guide r.steps

-- the step at a place
abbrev pub step_at : Route → ℕ → DStep
step_at r n = slice_index_or r.steps n (record { atom = 0; access = record { 0 = 0 }; adds = false })

-- no step comes after this one
abbrev pub is_last : Route → ℕ → Bool
is_last r n = n + 1 == length r.steps

abbrev pub probe_at : ℕ → Row → Probe
probe_at n key = record { step = n; key = key }
