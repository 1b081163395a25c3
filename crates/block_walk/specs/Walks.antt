-- A block's walk, depth first, between two probes.
--     fetched_in walk               what the walk has fetched, by step and then key; `fetched_at` is one entry of it
--     WasMade fetched p             the probe was made
--     classes_at first stages n     the classes that are bound before step n, where the steps before it were begun
--     IsMadeFor .. stage            the stage is made for a use of this constraint on this atom, after these classes
--     Begins P n old new            step n was begun, or it is begun now: then its stage, of which P holds, stands behind the others
--     IsStageAt ..                  what is kept of a step that was begun is as the block says
--     IsTidy route walk             so it is of each step that was begun, which has probed some key; what is known and what is pending stands
--                                   where it is said to, no step and key was probed twice, and of each entry's tuples those are kept that
--                                   its step's sieve keeps
--     set_at w route n              the classes that are bound before step n, as a set
--     children at rows              the valuations before the step after that of `at`
--     probe_of, found_at, next_at   the probe that a pending valuation wants, what it finds, and the valuations that it leads to
--     reached_from, outputs_from    the valuations after the last step that it leads to, and their outputs
--     wanted_from, work_from        the probes on the way there, and how many valuations there are on it
--     IsAnswer, IsProbe             an answer of the block, and a probe of its derivation
--     StandsAt ..                   the outputs that are through and those that the pending valuations lead to are the answers, and the
--                                   probes that were made and those that they want are the block's; `IsWalk` says so of a walk
--     Stands route walk             so it is in every world that agrees with what was fetched
--     IsTidyForAll, StandsForAll    so it is whatever the steps are
--     HasEnded walk                 no valuation is left to go on from
use Rattle.std.specs.Prelude.{◌≡◌, ◌+◌, ◌<◌, ◌≤◌, ◌⊎◌, ◌++◌, ℕ, List, [], ◌∷◌, length, map, flat_map, take, drop, slice_index_or}
use Rattle.beas_core.specs.declared.schema.Access.{Access}
use Rattle.beas_core.specs.declared.plan.DStep.{DStep}
use Rattle.beas_core.specs.declared.plan.Normal.{Normal}
use Rattle.beas_core.specs.Types.{Row, ClassSet, Guide}
use Rattle.beas_core.specs.Derivations.{access_in, bound_after}
use Rattle.beas_core.specs.Valuations.{answers_of, classes_in, output_row}
use Rattle.beas_core.specs.Reads.{Probe, key_for}
use Rattle.beas_core.specs.Sets.{IsInOrder}
use Rattle.beas_core.proofs.Sets.{Has}
use Rattle.beas_core.specs.Extensions.{group_for}
use Rattle.plan_ops.specs.declared.stages.Stage.{Stage}
use Rattle.plan_ops.specs.Stages.{IsStage}
use Rattle.block_walk.specs.Worlds.{World, Fetched, made, AgreesWith, in_order, probe_cmp}
use Rattle.block_walk.specs.Routes.{Route, route, first_classes, IsSoundIn, all_probes, is_last, step_at, probe_at}
use Rattle.block_walk.specs.Kept.{Entry, Pending, pending_at}
use Rattle.block_walk.specs.Entries.{AreKept, IsKnown, entries_in}
use Rattle.block_walk.specs.Stacks.{IsStack, pending_in}
use Rattle.block_walk.specs.declared.walking.Walk.{Walk}
use Rattle.block_walk.specs.Descents.{kept_from, reached, wanted, work}

-- ---- what was fetched

abbrev pub no_access : Access
no_access = record { id = record { 0 = 0 }; name = []; table = record { 0 = 0 }; key = []; fetched = []; bound = 0 }

abbrev pub accesses_in : List Stage → List Access
accesses_in stages = map (λ (s : Stage). s.access.value) stages

abbrev pub fetched_at : List Stage → Entry → Fetched
fetched_at stages e = record { probe = probe_at e.0.0 e.0.1; access = slice_index_or (accesses_in stages) e.0.0 no_access; tuples = e.1 }

abbrev pub fetched_in : Walk → List Fetched
fetched_in walk = in_order (map (fetched_at walk.stages.items) (entries_in walk.known))

abbrev pub WasMade : List Fetched → Probe → Type 0
WasMade fetched p = Has (made fetched) p

-- ---- what is kept

abbrev pub classes_at : List ℕ → List Stage → ℕ → List ℕ
classes_at first stages n = slice_index_or (first ∷ map (λ (s : Stage). s.join.classes) stages) n []

pub record IsMadeFor (normal : Normal) (of_atom : ℕ) (by_access : Access) (classes : List ℕ) (s : Stage) : Type 0 where
  pub stage : IsStage normal s
  pub atom : s.atom ≡ of_atom
  pub access : s.access.value ≡ by_access
  pub from : s.from.value ≡ classes

abbrev pub Begins : (Stage → Type 0) → ℕ → List Stage → List Stage → Type 0
Begins P n old new = ((n < length old) × (new ≡ old)) ⊎ ((s : Stage) × (n ≡ length old) × (new ≡ old ++ s ∷ []) × P s)

pub record IsStageAt (r : Route) (first : List ℕ) (stages : List Stage) (n : ℕ) (s : Stage) : Type 0 where
  pub stage : IsStage r.normal s
  pub atom : s.atom ≡ (step_at r n).atom
  pub from : s.from.value ≡ classes_at first stages n

pub record IsTidy (r : Route) (walk : Walk) : Type 0 where
  pub first : walk.first ≡ classes_in (first_classes r)
  pub few : length walk.stages.items ≤ length r.steps
  pub stages : (n : ℕ) (d : Stage) → n < length walk.stages.items
      → IsStageAt r walk.first walk.stages.items n (slice_index_or walk.stages.items n d)
  pub steps : (e : Entry) → Has (entries_in walk.known) e → e.0.0 < length walk.stages.items
  pub each : (n : ℕ) → n < length walk.stages.items → (e : Entry) × (Has (entries_in walk.known) e) × (e.0.0 ≡ n)
  pub pending : (p : Pending) → Has (pending_in walk.pending) p → p.step ≤ length walk.stages.items
  pub wide : (p : Pending) → Has (pending_in walk.pending) p → length p.row ≡ length (classes_at walk.first walk.stages.items p.step)
  pub known : IsKnown walk.known
  pub kept : (n : ℕ) (d : Stage) → n < length walk.stages.items
      → AreKept r.normal (slice_index_or walk.stages.items n d) (is_last r n) walk.known n
  pub stack : IsStack walk.pending
  -- strictly, so that no step and key was probed twice
  pub ordered : IsInOrder probe_cmp (made (fetched_in walk))

-- ---- where a walk stands

-- the classes that are bound before step n
abbrev pub set_at : World → Route → ℕ → ClassSet
set_at w r n = bound_after r.normal w.accesses (first_classes r) (take n r.steps)

abbrev pub children : Pending → List Row → List Pending
children at rows = map (pending_at (at.step + 1)) rows

-- what a pending valuation gives to its step, finds there, and leads to
abbrev pub probe_of : World → Route → Pending → Probe
probe_of w r p = probe_at p.step (key_for r.normal w.accesses (step_at r p.step) (set_at w r p.step) p.row)

abbrev pub found_at : World → Route → Pending → Fetched
found_at w r p = record {
  probe = probe_of w r p;
  access = access_in w.accesses (step_at r p.step).access;
  tuples = group_for w.rows r.normal w.accesses (step_at r p.step) (set_at w r p.step) p.row;
}

abbrev pub next_at : World → Route → Pending → List Row
next_at w r p = kept_from w.rows r.normal w.accesses (step_at r p.step) (set_at w r p.step) p.row

abbrev pub reached_from : World → Route → Pending → List Row
reached_from w r p = reached w.rows r.normal w.accesses (drop p.step r.steps) (set_at w r p.step) p.row

abbrev pub outputs_from : World → Route → Pending → List Row
outputs_from w r p = map (output_row r.normal (set_at w r (length r.steps))) (reached_from w r p)

abbrev pub wanted_from : World → Route → Pending → List Probe
wanted_from w r p = wanted w.rows r.normal w.accesses p.step (drop p.step r.steps) (set_at w r p.step) p.row

abbrev pub work_from : World → Route → Pending → ℕ
work_from w r p = work w.rows r.normal w.accesses (drop p.step r.steps) (set_at w r p.step) p.row

abbrev pub IsAnswer : World → Route → Row → Type 0
IsAnswer w r y = Has (answers_of w.rows r.normal w.accesses r.guide r.steps) y

abbrev pub IsProbe : World → Route → Probe → Type 0
IsProbe w r p = Has (all_probes w r) p

pub record StandsAt (w : World) (r : Route) (through : List Row) (pending : List Pending) (fetched : List Fetched) : Type 0 where
  pub rows_all : (y : Row) → IsAnswer w r y → Has through y ⊎ Has (flat_map (outputs_from w r) pending) y
  pub rows_only : (y : Row) → Has through y ⊎ Has (flat_map (outputs_from w r) pending) y → IsAnswer w r y
  pub probes_all : (p : Probe) → IsProbe w r p → WasMade fetched p ⊎ Has (flat_map (wanted_from w r) pending) p
  pub probes_only : (p : Probe) → WasMade fetched p ⊎ Has (flat_map (wanted_from w r) pending) p → IsProbe w r p

abbrev pub IsWalk : World → Route → Walk → Type 0
IsWalk w r walk = StandsAt w r walk.through (pending_in walk.pending) (fetched_in walk)

abbrev pub Stands : Route → Walk → Type 0
Stands r walk = (w : World) → IsSoundIn w r → AgreesWith w r.steps (fetched_in walk) → IsWalk w r walk

-- so it is whatever the steps are
abbrev pub IsTidyForAll : Normal → Guide → Walk → Type 0
IsTidyForAll normal guide walk = (steps : List DStep) → IsTidy (route normal guide steps) walk

abbrev pub StandsForAll : Normal → Guide → Walk → Type 0
StandsForAll normal guide walk = (steps : List DStep) → Stands (route normal guide steps) walk

-- no valuation is left to go on from
abbrev pub HasEnded : Walk → Type 0
HasEnded walk = pending_in walk.pending ≡ []
