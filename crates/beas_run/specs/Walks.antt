-- How far a run came in the turns of its script.
--     Moment                             a run's state, steps, output and files
--     moment session ..                  that of a session, where no query is open
--     Did turns before after             all of these turns were done, and their reports written
--     Stopped turns status before after  some of them were, and then memory ran out or the output failed
--     Follows ..                         the one or the other, with what holds of both
--     Walked settings readings ..        so for the turns of these readings and some outcomes of the loads of files
--     WalkedBefore took ..               the same, before one that takes the reports
-- What is written for a script is the `out_of` its turns, as they are seen, and what it costs their `cost_of`. A query that is open where
-- the script ends is dropped without a report: what it has read stands beside the cost.
use Rattle.std.specs.Prelude.{◌≡◌, ◌≢◌, ◌<◌, ◌≤◌, ◌+◌, ◌++◌, ◌⊎◌, if◌then◌else◌, ℕ, true, List, [], ◌∷◌, length, take, sum, All}
use Rattle.outside.specs.Counts.{raised}
use Rattle.outside.specs.Parts.{SentPart}
use Rattle.outside.specs.Seen.{Seen, Sent}
use Rattle.report.specs.declared.reports.Report.{Report}
use Rattle.report.specs.Reports.{report_text}
use Rattle.session.specs.declared.loading.LoadOutcome.{LoadOutcome}
use Rattle.session.specs.declared.session.Session.{Session}
use Rattle.session.specs.Effects.{Settings}
use Rattle.session.specs.Ties.{AreTied}
use Rattle.session.specs.Turns.{out_of, cost_of, any_refused, loads_of, IsWithin}
use Rattle.desk_model.specs.Pieces.{DeskTurn, seen_turns, turns}
use Rattle.beas_run.specs.Audiences.{reports_in}
use Rattle.piece_reader.specs.Sayings.{Reading}
use Rattle.beas_run.specs.Shares.{AreShares, greatest_cost}
use Rattle.beas_run.specs.States.{State, state_after, state_of}

pub record Moment : Type 0 where
  pub state : State
  pub steps : ℕ
  pub out : Sent
  pub files : Seen

abbrev pub moment : Session → ℕ → Sent → Seen → Moment
moment session steps out files =
    record { state = state_of session; steps = steps; out = out; files = files }

-- an answered query reads at most the number that was announced
abbrev pub AreWithin : List DeskTurn → Type 0
AreWithin turns = All (λ t. IsWithin t.effect.report) turns

pub record Did (turns : List DeskTurn) (before after : Moment) : Type 0 where
  pub sent : before.out.told ≡ true → after.out.bytes ≡ before.out.bytes ++ out_of (seen_turns turns)
  -- of the queries that are dropped, each has a share
  pub shares : List ℕ
  pub are_shares : AreShares (state_after before.state turns).queries shares
  pub steps : after.steps ≡ before.steps + cost_of (seen_turns turns) + sum shares
  pub db : after.state.db ≡ (state_after before.state turns).db
  pub within : AreWithin turns
  -- one put for each report, and one load for each LOAD that has a file
  pub puts : after.out.puts ≡ raised (length turns) before.out.puts
  pub loads : after.files.loads ≡ raised (length (loads_of (seen_turns turns))) before.files.loads

-- in the piece after those that were done, or before it, or after the last: the database is as it was before that piece
pub record StoppedInPiece (turns : List DeskTurn) (status : ℕ) (before after : Moment) : Type 0 where
  pub done : List DeskTurn
  pub left : List DeskTurn
  pub turns_are : turns ≡ done ++ left
  -- the output fails in a report alone
  pub no_fault : status ≢ 4
  pub sent : before.out.told ≡ true → after.out.bytes ≡ before.out.bytes ++ out_of (seen_turns done)
  pub no_fewer : before.steps + cost_of (seen_turns done) ≤ after.steps
  -- with all reads of a query that is open
  pub at_most : after.steps ≤ before.steps + greatest_cost before.state (done ++ take 1 left)
  pub db : after.state.db ≡ (state_after before.state done).db
  pub within : AreWithin done
  pub puts : after.out.puts ≡ raised (length done) before.out.puts
  -- once more where the piece is a LOAD, which has no turn then
  pub loads : (after.files.loads ≡ raised (length (loads_of (seen_turns done))) before.files.loads)
      ⊎ ((left ≡ []) × (after.files.loads ≡ raised (length (loads_of (seen_turns done)) + 1) before.files.loads))

-- in the report of a piece that was carried out
pub record StoppedInReport (turns : List DeskTurn) (status : ℕ) (before after : Moment) : Type 0 where
  pub done : List DeskTurn
  pub turn : DeskTurn
  pub left : List DeskTurn
  pub turns_are : turns ≡ done ++ turn ∷ left
  pub sent : before.out.told ≡ true
      → SentPart (before.out.bytes ++ out_of (seen_turns done)) after.out.bytes (report_text (length done + 1) turn.effect.report)
  -- unless the output failed, nothing of the report was sent
  pub unsent : status ≢ 4 → before.out.told ≡ true → after.out.bytes ≡ before.out.bytes ++ out_of (seen_turns done)
  pub shares : List ℕ
  pub are_shares : AreShares turn.effect.state.queries shares
  pub steps : after.steps ≡ before.steps + cost_of (seen_turns (done ++ turn ∷ [])) + sum shares
  pub db : after.state.db ≡ turn.effect.state.db
  pub within : AreWithin (done ++ turn ∷ [])
  -- the report was put once, or out of memory perhaps not at all
  pub puts : (after.out.puts ≡ raised (length done + 1) before.out.puts)
      ⊎ ((status ≢ 4) × (after.out.puts ≡ raised (length done) before.out.puts))
  pub loads : after.files.loads ≡ raised (length (loads_of (seen_turns (done ++ turn ∷ [])))) before.files.loads

abbrev pub Stopped : List DeskTurn → ℕ → Moment → Moment → Type 0
Stopped turns status before after =
    StoppedInPiece turns status before after ⊎ StoppedInReport turns status before after

-- 0: no report is a refusal; 1: some report is one
abbrev pub whole_status : List DeskTurn → ℕ
whole_status turns = if any_refused (seen_turns turns) then 1 else 0

pub record Follows (limit : ℕ) (turns : List DeskTurn) (status : ℕ) (before after : Moment) : Type 0 where
  pub whole : status < 2 → Did turns before after
  pub refusals : status < 2 → status ≡ whole_status turns
  pub stopped : 2 ≤ status → Stopped turns status before after
  -- however it ended
  pub part : before.out.told ≡ true → SentPart before.out.bytes after.out.bytes (out_of (seen_turns turns))
  pub no_fewer : before.steps ≤ after.steps
  pub at_most : after.steps ≤ before.steps + greatest_cost before.state turns
  pub tied : AreTied limit (loads_of (seen_turns turns)) before.files after.files

pub record Walked (settings : Settings) (readings : List Reading) (status : ℕ) (before after : Moment) : Type 0 where
  -- what the loads of files gave
  pub outcomes : List LoadOutcome
  pub whole : status < 2 → length (turns settings before.state readings outcomes) ≡ length readings
  -- where each piece has its turn, no file is loaded but theirs
  pub no_other_load : length (turns settings before.state readings outcomes) ≡ length readings
      → after.files.loads ≤ raised (length (loads_of (seen_turns (turns settings before.state readings outcomes)))) before.files.loads
  pub follows : Follows settings.limits.file (turns settings before.state readings outcomes) status before after

-- the same, and who took the reports took those of all turns where the script was carried out whole
pub record WalkedBefore (took : List Report → Type 0) (settings : Settings) (readings : List Reading) (status : ℕ)
    (before after : Moment) : Type 0 where
  pub walked : Walked settings readings status before after
  pub took_all : status < 2 → took (reports_in (turns settings before.state readings walked.outcomes))
