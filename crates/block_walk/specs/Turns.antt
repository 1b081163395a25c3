-- What one turn of a walk does: `old` is what the walk had fetched, `before` and `after` are the counts of reads. A probe is due
-- exactly where the pairs that are fetched are fewer than the block's probes, since no pair is fetched twice.
--     share w r p                            what a probe counts: the greater of 1 and the size of its group
--     fetched_reads fetched                  what the probes of these pairs counted
--     Fetches A one old new                  the new list has one item more than the old one, and otherwise the same
--     IsDue w r fetched p                    a probe of the block that hasn't been made
--     IsWithin w r fetched p                 with it the probes that were made take no more reads than all
--     ProbedOne w r reads old new ..         exactly one due probe was made, and is fetched now; it took so many reads
--     SpentDue w r fetched before after      one probe that was due was counted
--     SpentOnce w r fetched before after     a turn that failed counted nothing, or one probe that was due
--     IsDone r old walk ..                   no probe was due, and none was made
--     TurnIs w r reads old walk ..           a turn made exactly one due probe, or none was due
--     probed reads                           whether a probe was made
--     share_at w r at                        what the probe of a pending valuation counts
--     GoesOn count at rows outputs ..        what becomes of the valuations that one leads to, in a derivation of so many steps
--     outputs_at w r at                      their outputs
--     Visited w r at did old new             what visiting one pending valuation does: `did` says whether a probe was made
--     VisitCosts, VisitSpent                 what a visit counted, and what one that failed did
use Rattle.std.specs.Prelude.{◌≡◌, ◌+◌, ◌<◌, ◌≤◌, ◌⊎◌, ◌++◌, Bool, true, false, ℕ, List, length, map, max, sum_by, Contains, Option, Some, None}
use Rattle.beas_core.specs.Types.{Row}
use Rattle.beas_core.specs.Derivations.{access_in}
use Rattle.beas_core.specs.Reads.{Probe, access_of_step, probe_reads}
use Rattle.beas_core.specs.Valuations.{output_row}
use Rattle.beas_core.proofs.Sets.{Has, SameMembers}
use Rattle.block_walk.specs.Worlds.{World, Fetched, made, Agrees, AgreesWith}
use Rattle.block_walk.specs.Routes.{Route, IsSoundIn, all_probes, step_at}
use Rattle.block_walk.specs.Kept.{Pending}
use Rattle.block_walk.specs.Stacks.{pending_in}
use Rattle.block_walk.specs.declared.walking.Walk.{Walk}
use Rattle.block_walk.specs.Walks.{HasEnded, WasMade, children, fetched_in, found_at, next_at, probe_of, set_at}

abbrev pub share : World → Route → Probe → ℕ
share w r p = probe_reads w.rows (access_of_step w.accesses r.steps p.step) p.key

abbrev pub fetched_reads : List Fetched → ℕ
fetched_reads fetched = sum_by (λ f. max 1 (length f.tuples)) fetched

pub record Fetches (A : Type 0) (one : A) (old new : List A) : Type 0 where
  pub stands : Contains new one
  pub others : (f : A) → Contains new f → (f ≡ one) ⊎ Contains old f
  pub stay : (f : A) → Contains old f → Contains new f
  pub count : length new ≡ length old + 1

-- a probe of the block that hasn't been made
pub record IsDue (w : World) (r : Route) (fetched : List Fetched) (p : Probe) : Type 0 where
  pub wanted : Contains (all_probes w r) p
  pub not_made : Contains (made fetched) p → ⊥

-- with it the probes that were made take no more reads than all
abbrev pub IsWithin : World → Route → List Fetched → Probe → Type 0
IsWithin w r fetched p = fetched_reads fetched + share w r p ≤ sum_by (share w r) (all_probes w r)

pub record ProbedOne (w : World) (r : Route) (reads : ℕ) (old new : List Fetched) (before after : ℕ) : Type 0 where
  pub one : Fetched
  pub due : IsDue w r old one.probe
  pub agrees : Agrees w r.steps one
  pub fetches : Fetches Fetched one old new
  pub agree : AgreesWith w r.steps new
  pub fewer : length old < length (all_probes w r)
  pub reads_are : reads ≡ share w r one.probe
  pub all_reads : fetched_reads new ≡ fetched_reads old + reads
  pub within : IsWithin w r old one.probe
  pub cost : after ≡ before + reads

pub record SpentDue (w : World) (r : Route) (fetched : List Fetched) (before after : ℕ) : Type 0 where
  pub probe : Probe
  pub due : IsDue w r fetched probe
  pub fewer : length fetched < length (all_probes w r)
  pub within : IsWithin w r fetched probe
  pub cost : after ≡ before + share w r probe

abbrev pub SpentOnce : World → Route → List Fetched → ℕ → ℕ → Type 0
SpentOnce w r fetched before after = (after ≡ before) ⊎ SpentDue w r fetched before after

-- ---- a turn

pub record IsDone (r : Route) (old : List Fetched) (walk : Walk) (before after : ℕ) : Type 0 where
  pub ended : HasEnded walk
  pub same : fetched_in walk ≡ old
  pub cost : after ≡ before
  -- all probes are made, in every world that agrees with what is fetched
  pub all_made : (w : World) → IsSoundIn w r → AgreesWith w r.steps old → all_probes w r ≡ made old

-- what a turn says that it did: how many reads its probe took, or none where none was due
abbrev pub TurnIs : World → Route → Option ℕ → List Fetched → Walk → ℕ → ℕ → Type 0
TurnIs w r (Some reads) old walk before after = ProbedOne w r reads old (fetched_in walk) before after
TurnIs w r None old walk before after = IsDone r old walk before after

-- ---- one visit of a pending valuation

abbrev pub probed : Option ℕ → Bool
probed (Some reads) = true
probed None = false

-- what the visit's probe counts
abbrev pub share_at : World → Route → Pending → ℕ
share_at w r at = probe_reads w.rows (access_in w.accesses (step_at r at.step).access) (probe_of w r at).key

-- what becomes of the valuations after a step of so many: at the last step their outputs are through, before it they are pending
abbrev pub GoesOn : ℕ → Pending → List Row → List Row → List Pending → List Pending → List Row → List Row → Type 0
GoesOn count at rows outputs pending now_pending through now_through =
    ((at.step + 1 ≡ count) × (now_pending ≡ pending) × SameMembers now_through (through ++ outputs))
    ⊎ ((at.step + 1 < count) × (now_pending ≡ pending ++ children at rows) × (now_through ≡ through))

abbrev pub outputs_at : World → Route → Pending → List Row
outputs_at w r at = map (output_row r.normal (set_at w r (length r.steps))) (next_at w r at)

pub record Visited (w : World) (r : Route) (at : Pending) (did : Bool) (old new : Walk) : Type 0 where
  pub goes_on : GoesOn (length r.steps) at (next_at w r at) (outputs_at w r at) (pending_in old.pending) (pending_in new.pending) old.through new.through
  pub made : Has (fetched_in new) (found_at w r at)
  pub others : (f : Fetched) → Has (fetched_in new) f → (f ≡ found_at w r at) ⊎ Has (fetched_in old) f
  pub stay : (f : Fetched) → Has (fetched_in old) f → Has (fetched_in new) f
  pub was_due : did ≡ true → WasMade (fetched_in old) (probe_of w r at) → ⊥
  pub more : did ≡ true → length (fetched_in new) ≡ length (fetched_in old) + 1
  pub all_reads : did ≡ true → fetched_reads (fetched_in new) ≡ fetched_reads (fetched_in old) + share_at w r at
  pub was_known : did ≡ false → fetched_in new ≡ fetched_in old

abbrev pub VisitCosts : World → Route → Pending → Option ℕ → ℕ → ℕ → Type 0
VisitCosts w r at (Some reads) before after = (reads ≡ share_at w r at) × (after ≡ before + reads)
VisitCosts w r at None before after = after ≡ before

abbrev pub VisitSpent : World → Route → Pending → Walk → ℕ → ℕ → Type 0
VisitSpent w r at old before after = (after ≡ before)
    ⊎ ((WasMade (fetched_in old) (probe_of w r at) → ⊥) × (after ≡ before + share_at w r at))
