-- What was done at a desk for one piece of a script.
--     Scene                             a desk, the steps, the output and the files; scene makes one
--     moment_of scene                   what a run comes to that ends there
--     answered_from first               the effect of going on, to its answer, with a query of session 0 that was opened
--     is_opened report                  the event opened a query, by its report; has_probed result: it made a probe
--     Reaches last report ..            what was done came to this effect
--     IsTurn settings reading turn ..   the piece was carried out in this turn
--     IsDone settings reading report .. it was carried out, with this report
--     IsReported ..                     and its report was taken
--     IsUnreported ..                   and its report has no text or its put failed, for this reason
--     turn_alone settings state reading      the turn that the piece has where no load gives an outcome, if it has one then
--     reads_by state turn               what is read at most for all that was opened, where this turn comes next
--     IsLeft settings reading ..        out of memory the piece wasn't carried out, and the database is as it was
--     IsUndone ..                       the same, and nothing was sent
--     MayTakeUnnamed statement before ..      how many reads a statement that names no session may have counted before memory ran out
--     LeavesDesk reading before after ..      what is left of the desk there, with the reads that may have been counted
--     GoesOnBy reading report ..        what becomes of the probes and the shares
use Rattle.std.specs.Prelude.{◌≡◌, ◌≤◌, ◌+◌, ◌++◌, ◌⊎◌, ℕ, zero, suc, Bool, true, false, List, [], ◌∷◌, length, sum, Option, None, Some, Result, Ok, Err}
use Rattle.std.specs.Option.{option_map_or}
use Rattle.beas_core.specs.declared.errors.NoMemory.{NoMemory}
use Rattle.outside.specs.Counts.{raised}
use Rattle.outside.specs.Parts.{SentPart}
use Rattle.outside.specs.Seen.{Seen, Sent}
use Rattle.report.specs.declared.reports.Report.{Report}
use Rattle.report.specs.declared.reports.Report.TheVariants.{Opened, Probed}
use Rattle.report.specs.Reports.{report_text}
use Rattle.session.specs.declared.loading.LoadOutcome.{LoadOutcome}
use Rattle.session.specs.Effects.{Settings}
use Rattle.session.specs.Ties.{AreTied}
use Rattle.session.specs.Turns.{loads_of, is_refusal, IsWithin}
use Rattle.piece_reader.specs.declared.event.Event.TheVariants.{Said, Stepped}
use Rattle.sql_text.specs.declared.tree.Statement.{Statement}
use Rattle.desk_model.specs.Desks.{DeskEffect, State, query_of, said_action}
use Rattle.desk_model.specs.Pieces.{DeskTurn, Next, and_steps, next, piece_action, probes_due, seen_turn, with_answer}
use Rattle.piece_reader.specs.Sayings.{Reading}
use Rattle.version_store.specs.Desks.{GoesOn, MayCost, MayTake, Seen as DeskSeen, Stays, desk_wanting, without_query_of}
use Rattle.beas_run.specs.declared.ending.Ending.{Ending}
use Rattle.beas_run.specs.declared.ending.Ending.TheVariants.{NoMemory as Want}
use Rattle.beas_run.specs.Shares.{AreShares, open_reads}
use Rattle.beas_run.specs.Walks.{Moment}

pub record Scene : Type 0 where
  pub desk : DeskSeen
  pub steps : ℕ
  pub out : Sent
  pub files : Seen

abbrev pub scene : DeskSeen → ℕ → Sent → Seen → Scene
scene desk steps out files = record { desk = desk; steps = steps; out = out; files = files }

-- the open queries are dropped
abbrev pub moment_of : Scene → Moment
moment_of scene =
    record { state = record { db = scene.desk.state.db; queries = [] }; steps = scene.steps; out = scene.out; files = scene.files }

abbrev pub answered_from : DeskEffect → DeskEffect
answered_from first = and_steps 0 (probes_due 0 first.state + 1) first

abbrev pub is_opened : Report → Bool
is_opened (Opened session bound) = true
is_opened _ = false

abbrev pub has_probed : Result Report NoMemory → Bool
has_probed (Ok (Probed session)) = true
has_probed _ = false

pub record Reaches (last : DeskEffect) (report : Report) (before after : DeskSeen) (steps_before steps_after : ℕ) : Type 0 where
  pub report_is : report ≡ last.report
  pub state_is : after.state ≡ last.state
  pub shares : AreShares before.state.queries before.shares → AreShares after.state.queries after.shares
  pub counts : steps_after + sum before.shares ≡ steps_before + last.cost + sum after.shares

-- what was read for a query that is open stands in its share
pub record IsTurn (settings : Settings) (reading : Reading) (turn : DeskTurn) (before after : DeskSeen)
    (steps_before steps_after : ℕ) (files_before files_after : Seen) : Type 0 where
  -- what its load gave, if it has one
  pub outcomes : List LoadOutcome
  pub comes : (later : List LoadOutcome)
      → next (piece_action settings before.state reading) (outcomes ++ later) ≡ Some (record { turn = turn; left = later })
  pub state : after.state ≡ turn.effect.state
  pub shares : AreShares before.state.queries before.shares → AreShares after.state.queries after.shares
  pub steps : steps_after + sum before.shares ≡ steps_before + turn.effect.cost + sum after.shares
  pub within : IsWithin turn.effect.report
  pub tied : AreTied settings.limits.file (loads_of (seen_turn turn ∷ [])) files_before files_after
  pub loads : files_after.loads ≡ raised (length (loads_of (seen_turn turn ∷ []))) files_before.loads

pub record IsDone (settings : Settings) (reading : Reading) (report : Report) (before after : DeskSeen)
    (steps_before steps_after : ℕ) (files_before files_after : Seen) : Type 0 where
  pub turn : DeskTurn
  pub report_is : report ≡ turn.effect.report
  pub is : IsTurn settings reading turn before after steps_before steps_after files_before files_after

pub record IsReported (settings : Settings) (reading : Reading) (number : ℕ) (refused : Bool)
    (took_before took_after : List Report → Type 0) (before after : Scene) : Type 0 where
  pub turn : DeskTurn
  pub is : IsTurn settings reading turn before.desk after.desk before.steps after.steps before.files after.files
  pub sent : before.out.told ≡ true → after.out.bytes ≡ before.out.bytes ++ report_text number turn.effect.report
  pub puts : after.out.puts ≡ raised 1 before.out.puts
  pub refused_is : refused ≡ is_refusal turn.effect.report
  pub took : (reports : List Report) → took_before reports → took_after (reports ++ turn.effect.report ∷ [])

pub record IsUnreported (settings : Settings) (reading : Reading) (number : ℕ) (why : Ending) (before after : Scene)
    : Type 0 where
  pub turn : DeskTurn
  pub is : IsTurn settings reading turn before.desk after.desk before.steps after.steps before.files after.files
  pub sent : before.out.told ≡ true
      → SentPart before.out.bytes after.out.bytes (report_text number turn.effect.report)
  pub unsent : why ≡ Want → before.out.told ≡ true → after.out.bytes ≡ before.out.bytes
  pub puts : (after.out.puts ≡ raised 1 before.out.puts) ⊎ ((why ≡ Want) × (after.out.puts ≡ before.out.puts))

abbrev pub turn_alone : Settings → State → Reading → Option Next
turn_alone settings state reading = next (piece_action settings state reading) []

abbrev pub reads_by : State → Option Next → ℕ
reads_by state turn = option_map_or (λ n. n.turn.effect.cost + open_reads n.turn.effect.state) turn (open_reads state)

pub record IsLeft (settings : Settings) (reading : Reading) (before after : DeskSeen)
    (steps_before steps_after : ℕ) (files_before files_after : Seen) : Type 0 where
  pub no_fewer : steps_before ≤ steps_after
  pub at_most : AreShares before.state.queries before.shares
      → steps_after + sum before.shares ≤ steps_before + reads_by before.state (turn_alone settings before.state reading)
  -- its file was loaded at most once, where it is a LOAD
  pub loaded : (files_after.loads ≡ files_before.loads)
      ⊎ ((turn_alone settings before.state reading ≡ None) × (files_after.loads ≡ raised 1 files_before.loads))
  pub db : after.state.db ≡ before.state.db

pub record IsUndone (settings : Settings) (reading : Reading) (before after : Scene) : Type 0 where
  pub left : IsLeft settings reading before.desk after.desk before.steps after.steps before.files after.files
  pub sent : before.out.told ≡ true → after.out.bytes ≡ before.out.bytes
  pub puts : after.out.puts ≡ before.out.puts

-- no more than the piece costs, with the answer of a query that it opens, whatever the load of its file gave: nothing of other open queries
abbrev pub MayTakeUnnamed : Statement → DeskSeen → ℕ → ℕ → Type 0
MayTakeUnnamed statement before s t =
    MayCost (with_answer before.state (said_action before.settings before.state 0 (query_of 0 before.state) statement)) s t

-- a statement that names no session may leave a query of session 0 open. It counted at most what its piece costs. Any other statement leaves the
-- desk as it was. A STEP loses its query, unless memory ran out before the piece was read
abbrev pub LeavesDesk : Reading → DeskSeen → DeskSeen → ℕ → ℕ → Type 0
LeavesDesk (Ok (Said zero statement)) before after s t =
    (without_query_of 0 after ≡ without_query_of 0 before) × MayTakeUnnamed statement before s t
LeavesDesk (Ok (Said (suc session) statement)) before after s t = (after ≡ before) × MayTake (Said (suc session) statement) before s t
LeavesDesk (Ok (Stepped session)) before after s t =
    ((after ≡ before) × (t ≡ s)) ⊎ ((after ≡ desk_wanting (Stepped session) before) × MayTake (Stepped session) before s t)
LeavesDesk (Err why) before after s t = (after ≡ before) × (t ≡ s)

-- where a statement names no session, the probes and shares of all open queries stay: a query that it opened was answered, and so closed again
abbrev pub GoesOnBy : Reading → Report → DeskSeen → DeskSeen → ℕ → ℕ → Type 0
GoesOnBy (Ok (Said zero statement)) report before after s t = Stays before after
GoesOnBy (Ok (Said (suc session) statement)) report before after s t = GoesOn (Said (suc session) statement) report before after s t
GoesOnBy (Ok (Stepped session)) report before after s t = GoesOn (Stepped session) report before after s t
GoesOnBy (Err why) report before after s t = (after ≡ before) × (t ≡ s)
