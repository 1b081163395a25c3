-- What one turn of a cursor does, where `before` and `after` are the counts of reads. A probe is due exactly where the pairs that are
-- fetched are fewer than the query's probes, since no pair is fetched twice.
--     IsDue w prepared fetched p                         a probe of the query that hasn't been made
--     ProbedOne w prepared reads old new before after    exactly one due probe was made, and is fetched now; it took so many reads
--     SpentDue w prepared fetched before after           one probe that was due was counted
--     QuerySpent w prepared fetched before after         what failed counted nothing, or one probe that was due
--     HasRun old new before after                        an operation of a course that made no probe has run
--     Stepped w prepared reads old new before after      what carrying out one operation did
--     HasEnded old new before after                      all operations have run, and none made a probe
--     Went w prepared reads old new before after         what carrying out operations up to the next probe did
--     HasGone w prepared probed old new before after     the same, where only whether a probe was made is told
--     IsProbed, IsDone                                   a cursor made one probe that was due, or none was due and its answer is there
--     Did w turn old new before after                    which of the two, by what the turn says
--     TurnIs w turn old new before after                 what a cursor's turn did
use Rattle.std.specs.Prelude.{◌≡◌, ◌+◌, ◌<◌, ◌≤◌, ◌⊎◌, Bool, true, false, ℕ, List, [], length, Contains, Option, Some, None}
use Rattle.beas_core.specs.declared.plan.Prepared.{Prepared}
use Rattle.beas_core.specs.Full.{full_of}
use Rattle.beas_core.specs.Queries.{BlockProbe}
use Rattle.block_walk.specs.Worlds.{World, Agrees}
use Rattle.block_walk.specs.Turns.{Fetches}
use Rattle.cursor_executor.specs.declared.courses.Course.{Course}
use Rattle.cursor_executor.specs.declared.cursors.Turn.{Turn}
use Rattle.cursor_executor.specs.declared.cursors.Turn.TheVariants.{Probed, Done}
use Rattle.cursor_executor.specs.Courses.{fetched_by, left_of}
use Rattle.cursor_executor.specs.Fetching.{BlockFetched, Seen, AllAgree, probe_of, probed, probes_due, reads_due, reads_fetched, share_of, steps_of}

pub record IsDue (w : World) (prepared : Prepared) (fetched : List BlockFetched) (p : BlockProbe) : Type 0 where
  pub wanted : Contains (probes_due w prepared) p
  pub not_made : Contains (probed fetched) p → ⊥

pub record ProbedOne (w : World) (prepared : Prepared) (reads : ℕ) (old new : List BlockFetched) (before after : ℕ) : Type 0 where
  pub one : BlockFetched
  pub due : IsDue w prepared old (probe_of one)
  pub agrees : Agrees w (steps_of prepared one.block) one.pair
  pub fetches : Fetches BlockFetched one old new
  pub agree : AllAgree w prepared new
  pub fewer : length old < length (probes_due w prepared)
  pub reads_are : reads ≡ share_of w prepared (probe_of one)
  pub all_reads : reads_fetched new ≡ reads_fetched old + reads
  pub within : reads_fetched old + reads ≤ reads_due w prepared
  pub cost : after ≡ before + reads

pub record SpentDue (w : World) (prepared : Prepared) (fetched : List BlockFetched) (before after : ℕ) : Type 0 where
  pub probe : BlockProbe
  pub due : IsDue w prepared fetched probe
  pub fewer : length fetched < length (probes_due w prepared)
  pub within : reads_fetched fetched + share_of w prepared probe ≤ reads_due w prepared
  pub cost : after ≡ before + share_of w prepared probe

abbrev pub QuerySpent : World → Prepared → List BlockFetched → ℕ → ℕ → Type 0
QuerySpent w prepared fetched before after = (after ≡ before) ⊎ SpentDue w prepared fetched before after

-- ---- of a course

-- an operation that made no probe has run
pub record HasRun (old new : Course) (before after : ℕ) : Type 0 where
  pub operations : new.operations ≡ old.operations
  pub next : new.position ≡ old.position + 1
  pub same : fetched_by new ≡ fetched_by old
  pub cost : after ≡ before

-- what carrying out one operation did: it took so many reads for a probe, or made none
abbrev pub Stepped : World → Prepared → Option ℕ → Course → Course → ℕ → ℕ → Type 0
Stepped w prepared (Some reads) old new before after = ProbedOne w prepared reads (fetched_by old) (fetched_by new) before after
Stepped w prepared None old new before after = HasRun old new before after

-- all operations have run, and none made a probe
pub record HasEnded (old new : Course) (before after : ℕ) : Type 0 where
  pub left : left_of new ≡ []
  pub same : fetched_by new ≡ fetched_by old
  pub cost : after ≡ before

abbrev pub Went : World → Prepared → Option ℕ → Course → Course → ℕ → ℕ → Type 0
Went w prepared (Some reads) old new before after = ProbedOne w prepared reads (fetched_by old) (fetched_by new) before after
Went w prepared None old new before after = HasEnded old new before after

-- whether one probe was made
abbrev pub HasGone : World → Prepared → Bool → Course → Course → ℕ → ℕ → Type 0
HasGone w prepared true old new before after = (reads : ℕ) × ProbedOne w prepared reads (fetched_by old) (fetched_by new) before after
HasGone w prepared false old new before after = HasEnded old new before after

-- ---- of a cursor

pub record IsProbed (w : World) (old new : Seen) (before after : ℕ) : Type 0 where
  pub reads : ℕ
  pub made : ProbedOne w old.prepared reads old.fetched new.fetched before after
  pub raised : new.reads ≡ old.reads + reads
  pub unanswered : (old.answer ≡ None) × (new.answer ≡ None)

pub record IsDone (w : World) (old new : Seen) (before after : ℕ) : Type 0 where
  pub none_due : probes_due w old.prepared ≡ probed old.fetched
  pub same : new.fetched ≡ old.fetched
  pub stay : new.reads ≡ old.reads
  pub reads_are : new.reads ≡ reads_due w old.prepared
  pub answered : new.answer ≡ Some (full_of w.rows old.prepared.query)
  pub cost : after ≡ before

abbrev pub Did : World → Turn → Seen → Seen → ℕ → ℕ → Type 0
Did w Probed old new before after = IsProbed w old new before after
Did w Done old new before after = IsDone w old new before after

pub record TurnIs (w : World) (turn : Turn) (old new : Seen) (before after : ℕ) : Type 0 where
  pub going : new.failed ≡ false
  pub did : Did w turn old new before after
