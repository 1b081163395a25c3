-- What is seen of a desk, and what one event does there. Of each pair of counts the first is of the reads before the event, and the second of
-- those after it.
--     Seen                                  a desk: its settings, its state, and for each open query the probes that were made and their reads
--     place_in session seen                 where the session's query stands among the open ones; share_at and probes_at are its reads and its probes
--     ProbesFit query share probes          these are probes of an open query, which counted so many reads: what each of them counts, in all. That is
--                                           at least their number, and at most the query's Reads, which are at most the number that was announced
--     IsDesk seen                           what is true of every desk: its catalogue is sound, no session has two open queries, and each open query
--                                           has its probes and its share of the reads
--     loads_by action outcome               the load that an action takes, where its file gives this
--     Takes limit action report ..          the report, the desk afterwards and the reads are those of the action
--     TakesSome limit action report ..      there is an action, and so it is
--     IsDue query made probe                a probe of the query that isn't among those that were made
--     ProbesOnce session before after ..    exactly one due probe of the session's query was made, and it counted its share
--     Finishes session before after ..      no probe was made: all had been made, and had counted the query's reads
--     GoesOn event report before after ..   what becomes of the probes and the shares
--     desk_wanting event seen               what want of memory leaves
--     without_query_of session seen         what dropping a session's query leaves: all else
--     MayCost, MayTake event seen ..        how many reads may have been counted before memory ran out
--     waits_for_file action, MayLoad action ..      whether the action waits for a file; how many files may have been loaded
--     EventIsWellFormed event, session_in event     its statement is well formed; its session
--     IsTaken event result before after ..    what a desk tells of an event that was to be done there, whatever it answers
use Rattle.std.specs.Prelude.{◌≡◌, ◌+◌, ◌<◌, ◌≤◌, ◌⊎◌, ◌++◌, ℕ, Bool, true, false, List, [], ◌∷◌, length, sum, sum_by, remove, slice_index_or, slice_set, Contains, Option, Some, None, Result, IfOk, OnErr}
use Rattle.beas_core.specs.declared.errors.NoMemory.{NoMemory}
use Rattle.outside.specs.Counts.{raised}
use Rattle.outside.specs.Seen.{IsLater, Seen as Files}
use Rattle.beas_core.specs.Queries.{BlockProbe}
use Rattle.block_walk.specs.Turns.{Fetches}
use Rattle.catalogue.specs.Database.{schema_of}
use Rattle.catalogue.specs.Schema.{SchemaIsSound}
use Rattle.report.specs.declared.reports.Report.{Report}
use Rattle.report.specs.declared.reports.Report.TheVariants.{Opened, Probed, Answered}
use Rattle.sql_text.specs.declared.tree.Statement.TheVariants.{Select}
use Rattle.session.specs.declared.loading.LoadOutcome.{LoadOutcome}
use Rattle.session.specs.Effects.{Settings}
use Rattle.session.specs.Statements.{StatementIsWellFormed}
use Rattle.session.specs.Ties.{AreTied}
use Rattle.session.specs.Turns.{FileLoad, IsWithin}
use Rattle.desk_model.specs.OpenQueries.{OpenQuery, probes_of, reads_of, share_of}
use Rattle.piece_reader.specs.declared.event.Event.{Event}
use Rattle.piece_reader.specs.declared.event.Event.TheVariants.{Said, Stepped}
use Rattle.desk_model.specs.Answers.{effect_by}
use Rattle.desk_model.specs.Desks.{DeskAction, AtOnce, ByLoad, OneEach, State, action_of_event, lost, place_of, query_of, said_action, without_query}

-- `shares` and `probes` are in the order of the open queries. Of a query that memory ran out for they are 0 and none
pub record Seen : Type 0 where
  pub settings : Settings
  pub state : State
  pub shares : List ℕ
  pub probes : List (List BlockProbe)

abbrev pub place_in : ℕ → Seen → ℕ
place_in session seen = place_of session seen.state.queries

abbrev pub share_at : ℕ → Seen → ℕ
share_at session seen = slice_index_or seen.shares (place_in session seen) 0

abbrev pub probes_at : ℕ → Seen → List BlockProbe
probes_at session seen = slice_index_or seen.probes (place_in session seen) []

-- ---- what is true of every desk

-- these are the probes that were made for an open query, and they counted so many reads, each its share of them
pub record ProbesFit (query : OpenQuery) (share : ℕ) (probes : List BlockProbe) : Type 0 where
  pub count : (made : ℕ) → query.made ≡ Some made → length probes ≡ made
  pub own : (probe : BlockProbe) → Contains probes probe → Contains (probes_of query) probe
  pub adds_up : share ≡ sum_by (share_of query) probes
  pub least : length probes ≤ share
  pub most : share ≤ reads_of query
  pub bound : reads_of query ≤ query.prepared.bound
  pub lost : query.made ≡ None → (share ≡ 0) × (probes ≡ [])

pub record IsDesk (seen : Seen) : Type 0 where
  pub sound : SchemaIsSound (schema_of seen.state.db)
  pub one_each : OneEach seen.state
  pub as_many_shares : length seen.shares ≡ length seen.state.queries
  pub as_many_probes : length seen.probes ≡ length seen.state.queries
  pub fit : (k : ℕ) (none : OpenQuery) → k < length seen.state.queries
      → ProbesFit (slice_index_or seen.state.queries k none) (slice_index_or seen.shares k 0) (slice_index_or seen.probes k [])

-- ---- an event that was carried out

abbrev pub loads_by : DeskAction → LoadOutcome → List FileLoad
loads_by (AtOnce effect) outcome = []
loads_by (ByLoad name effect) outcome = record { name = name; outcome = outcome } ∷ []

pub record Takes (limit : ℕ) (action : DeskAction) (report : Report) (before after : Seen) (s t : ℕ) (files_before files_after : Files) : Type 0 where
  -- what the load of the action's file gave in this event, if it has one
  pub outcome : LoadOutcome
  pub report_is : report ≡ (effect_by action outcome).report
  pub state_is : after.state ≡ (effect_by action outcome).state
  pub settings_stay : after.settings ≡ before.settings
  -- a query's probes cost nothing until it is answered, and then what they read: until then it has a share of the reads
  pub counts : t + sum before.shares ≡ s + (effect_by action outcome).cost + sum after.shares
  pub tied : AreTied limit (loads_by action outcome) files_before files_after
  -- that load was the only one
  pub counted : files_after.loads ≡ raised (length (loads_by action outcome)) files_before.loads

abbrev pub TakesSome : ℕ → Option DeskAction → Report → Seen → Seen → ℕ → ℕ → Files → Files → Type 0
TakesSome limit None report before after s t x y = ⊥
TakesSome limit (Some action) report before after s t x y = Takes limit action report before after s t x y

-- ---- the probes

pub record IsDue (query : OpenQuery) (made : List BlockProbe) (probe : BlockProbe) : Type 0 where
  pub wanted : Contains (probes_of query) probe
  pub not_made : Contains made probe → ⊥

pub record ProbesOnce (session : ℕ) (before after : Seen) (s t : ℕ) : Type 0 where
  pub query : OpenQuery
  pub is : query_of session before.state ≡ Some query
  pub probe : BlockProbe
  pub due : IsDue query (probes_at session before) probe
  -- it is made now, and no other
  pub made : List BlockProbe
  pub makes : Fetches BlockProbe probe (probes_at session before) made
  pub probes : after.probes ≡ slice_set before.probes (place_in session before) made
  pub shares : after.shares ≡ slice_set before.shares (place_in session before) (share_at session before + share_of query probe)
  pub steps : t ≡ s + share_of query probe

pub record Finishes (session : ℕ) (before after : Seen) (s t : ℕ) : Type 0 where
  pub query : OpenQuery
  pub is : query_of session before.state ≡ Some query
  pub all_made : probes_at session before ≡ probes_of query
  pub reads : share_at session before ≡ reads_of query
  pub probes : after.probes ≡ remove before.probes (place_in session before)
  pub shares : after.shares ≡ remove before.shares (place_in session before)
  pub steps : t ≡ s

-- a query that is opened has read nothing
pub record Begins (before after : Seen) (s t : ℕ) : Type 0 where
  pub probes : after.probes ≡ before.probes ++ [] ∷ []
  pub shares : after.shares ≡ before.shares ++ 0 ∷ []
  pub steps : t ≡ s

pub record Stays (before after : Seen) : Type 0 where
  pub probes : after.probes ≡ before.probes
  pub shares : after.shares ≡ before.shares

abbrev pub GoesOn : Event → Report → Seen → Seen → ℕ → ℕ → Type 0
GoesOn (Said session (Select tree)) (Opened k bound) before after s t = Begins before after s t
GoesOn (Said session statement) report before after s t = Stays before after
GoesOn (Stepped session) (Probed k) before after s t = ProbesOnce session before after s t
GoesOn (Stepped session) (Answered bound plan header rows reads) before after s t = Finishes session before after s t
GoesOn (Stepped session) report before after s t = Stays before after × (t ≡ s)

-- ---- out of memory

-- a statement leaves the desk as it was; an event that goes on with a query loses that query, and leaves all else as it was
abbrev pub desk_wanting : Event → Seen → Seen
desk_wanting (Said session statement) seen = seen
desk_wanting (Stepped session) seen = record {
  settings = seen.settings;
  state = lost seen.state session (query_of session seen.state);
  shares = slice_set seen.shares (place_in session seen) 0;
  probes = slice_set seen.probes (place_in session seen) [];
}

-- ---- a query is dropped

-- with its share and its probes. Where the session has none, its place is past the last, and this is the same desk
abbrev pub without_query_of : ℕ → Seen → Seen
without_query_of session seen = record {
  settings = seen.settings;
  state = without_query session seen.state;
  shares = remove seen.shares (place_in session seen);
  probes = remove seen.probes (place_in session seen);
}

-- one due probe was made before memory ran out. With those made before it, it counted no more than the query's reads
pub record SpendsOne (session : ℕ) (before : Seen) (s t : ℕ) : Type 0 where
  pub query : OpenQuery
  pub is : query_of session before.state ≡ Some query
  pub made : ℕ
  pub was : query.made ≡ Some made
  pub fewer : made < length (probes_of query)
  pub probe : BlockProbe
  pub due : IsDue query (probes_at session before) probe
  pub within : share_at session before + share_of query probe ≤ reads_of query
  pub steps : t ≡ s + share_of query probe

-- whatever the load of the action's file gave
abbrev pub MayCost : DeskAction → ℕ → ℕ → Type 0
MayCost action s t = (outcome : LoadOutcome) → t ≤ s + (effect_by action outcome).cost

abbrev pub MayTake : Event → Seen → ℕ → ℕ → Type 0
MayTake (Said session statement) before s t =
    MayCost (said_action before.settings before.state session (query_of session before.state) statement) s t
MayTake (Stepped session) before s t = (t ≡ s) ⊎ SpendsOne session before s t

-- ---- files

abbrev pub waits_for_file : Option DeskAction → Bool
waits_for_file None = false
waits_for_file (Some (AtOnce effect)) = false
waits_for_file (Some (ByLoad name effect)) = true

-- whatever became of the action
abbrev pub MayLoad : Option DeskAction → Files → Files → Type 0
MayLoad None before after = after.loads ≡ before.loads
MayLoad (Some (AtOnce effect)) before after = after.loads ≡ before.loads
MayLoad (Some (ByLoad name effect)) before after = (after.loads ≡ before.loads) ⊎ (after.loads ≡ raised 1 before.loads)

-- ---- what an event is to be

abbrev pub EventIsWellFormed : Event → Type 0
EventIsWellFormed (Said session statement) = StatementIsWellFormed statement
EventIsWellFormed (Stepped session) = Unit {0}

abbrev pub session_in : Event → ℕ
session_in (Said session statement) = session
session_in (Stepped session) = session

-- ---- what a desk tells of an event

pub record IsTaken (event : Event) (result : Result Report NoMemory) (before after : Seen) (s t : ℕ) (files_before files_after : Files) : Type 0 where
  pub did : IfOk result (λ report. TakesSome before.settings.limits.file (action_of_event before.settings before.state event) report before after
      s t files_before files_after)
  pub goes_on : IfOk result (λ report. GoesOn event report before after s t)
  pub within : IfOk result IsWithin
  pub told : IsDesk before × IsDesk after
  pub settings : after.settings ≡ before.settings
  -- out of memory
  pub err : OnErr result (after ≡ desk_wanting event before)
  pub at_most : OnErr result (MayTake event before s t)
  -- whatever it answers
  pub no_fewer : s ≤ t
  -- the files
  pub loaded : MayLoad (action_of_event before.settings before.state event) files_before files_after
  pub later : IsLater files_before files_after
