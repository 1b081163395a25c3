-- A desk: a database that sessions take turns at, and for each session at most one query that is announced and not answered yet.
--     State                                the database as it is, and the open queries in the order of their opening
--     OneEach state                        no session has two open queries: so it is where none is open, and each event keeps it
--     is_of session query                  the query is of this session
--     query_of session state               the session's open query, if it has one; place_of is its place among them
--     with_query session query state       the state with this query in the place of the session's; without_query without the session's
--     DeskEffect, DeskAction               what is done at a desk, at once or by what the load of a file gives: a report, a cost, the state after it
--     refused state why                    a refusal leaves the state
--     with_effect, at_desk state action    what is done to the database; the open queries stay
--     new_query explain db session prepared      a query that is announced, as it is opened
--     opened_effect, statement_action, said_action      what a session says: a query is opened, and all else is done to the database
--     probed_effect, answered_effect, query_effect, stepped_effect      how a query goes on: by one probe, or to its answer
--     action_of_event settings state event       what an event does; nothing where it is to probe for a query that memory ran out for
--     lost, wanting state event            the state where memory ran out in an event
-- A statement is what it is for the database alone, except that a query which is announced is opened, and that a statement of a session
-- whose query is open is refused, whatever it says. An event that goes on with a query makes one of its probes that wasn't made, over the
-- rows that it saw where it was opened; where all were made, it answers the query over these rows, and the query is closed.
-- The state counts a query's probes. It doesn't say which were made, nor what they read: so what carries an event out has to say of itself
-- which due probe it made, that it hadn't been made before, and that it counted this probe's share of the reads, also where memory ran out.
use Rattle.std.specs.Prelude.{◌≢◌, ◌==◌, ◌+◌, ◌++◌, nat_lt, AllPairs, if◌then◌else◌, ℕ, Bool, List, [], ◌∷◌, length, find, remove, slice_set, Option, Some, None, option_map, Result, Ok, Err}
use Rattle.std.specs.List.{position_or_len}
use Rattle.beas_core.specs.declared.plan.Prepared.{Prepared}
use Rattle.beas_core.specs.declared.refusal.Refusal.{Refusal}
use Rattle.beas_core.specs.declared.refusal.Refusal.TheVariants.{SessionBusy, SessionIdle}
use Rattle.catalogue.specs.Database.{Database, rows_at, schema_of}
use Rattle.sql_text.specs.declared.tree.Statement.{Statement}
use Rattle.sql_text.specs.declared.tree.Statement.TheVariants.{Select}
use Rattle.report.specs.declared.reports.Report.{Report}
use Rattle.report.specs.declared.reports.Report.TheVariants.{Answered, Opened, Probed, Refused}
use Rattle.session.specs.declared.loading.LoadOutcome.{LoadOutcome}
use Rattle.session.specs.Announced.{announcement}
use Rattle.session.specs.Effects.{Action, Does, Loads, Effect, Settings, action_of, plan_shown}
use Rattle.desk_model.specs.Keeping.{kept_accesses, kept_tables}
use Rattle.desk_model.specs.OpenQueries.{OpenQuery, answer_of, probes_of, reads_of}
use Rattle.piece_reader.specs.declared.event.Event.{Event}
use Rattle.piece_reader.specs.declared.event.Event.TheVariants.{Said, Stepped}

-- ---- the state

pub record State : Type 0 where
  pub db : Database
  pub queries : List OpenQuery

abbrev pub OneEach : State → Type 0
OneEach state = AllPairs (λ query other. query.session ≢ other.session) state.queries

-- ---- the query of a session

abbrev pub is_of : ℕ → OpenQuery → Bool
is_of session query = query.session == session

abbrev pub place_of : ℕ → List OpenQuery → ℕ
place_of session queries = position_or_len (is_of session) queries

abbrev pub query_of : ℕ → State → Option OpenQuery
query_of session state = find (is_of session) state.queries

-- in the place of the session's query
abbrev pub with_query : ℕ → OpenQuery → State → State
with_query session query state = record state { queries = slice_set state.queries (place_of session state.queries) query }

abbrev pub without_query : ℕ → State → State
without_query session state = record state { queries = remove state.queries (place_of session state.queries) }

-- ---- effects

pub record DeskEffect : Type 0 where
  pub report : Report
  pub cost : ℕ
  pub state : State

-- a LOAD of a known table waits for what the load of its file gives; all else is done at once
pub data DeskAction : Type 0 where
  AtOnce : DeskEffect → DeskAction
  ByLoad : List ℕ → (LoadOutcome → DeskEffect) → DeskAction

abbrev pub refused : State → Refusal → DeskEffect
refused state why = record { report = Refused why; cost = 0; state = state }

-- what is done to the database; the open queries stay
abbrev pub with_effect : State → Effect → DeskEffect
with_effect state effect = record { report = effect.report; cost = effect.cost; state = record state { db = effect.db } }

abbrev pub at_desk : State → Action → DeskAction
at_desk state (Does effect) = AtOnce (with_effect state effect)
at_desk state (Loads name effect) = ByLoad name (λ outcome. with_effect state (effect outcome))

-- ---- a statement

abbrev pub new_query : Bool → Database → ℕ → Prepared → OpenQuery
new_query explain db session prepared = record {
  session = session;
  prepared = prepared;
  plan = plan_shown explain db prepared;
  tables = kept_tables (rows_at db) prepared.query;
  accesses = kept_accesses db.accesses prepared.derivations;
  made = Some 0;
}

-- a query that is announced is opened: it reads nothing yet
abbrev pub opened_effect : Bool → State → ℕ → Result Prepared Refusal → DeskEffect
opened_effect explain state session (Err why) = refused state why
opened_effect explain state session (Ok prepared) = record {
  report = Opened session prepared.bound;
  cost = 0;
  state = record state { queries = state.queries ++ new_query explain state.db session prepared ∷ [] };
}

abbrev pub statement_action : Settings → State → ℕ → Statement → DeskAction
statement_action settings state session (Select tree) =
    AtOnce (opened_effect settings.explain state session (announcement settings.limits settings.budget (schema_of state.db) tree))
statement_action settings state session statement = at_desk state (action_of settings state.db statement)

-- where its query is open, a session's statement is refused
abbrev pub said_action : Settings → State → ℕ → Option OpenQuery → Statement → DeskAction
said_action settings state session None statement = statement_action settings state session statement
said_action settings state session (Some query) statement = AtOnce (refused state (SessionBusy session))

-- ---- going on with a query

abbrev pub probed_effect : State → ℕ → OpenQuery → ℕ → DeskEffect
probed_effect state session query made =
    record { report = Probed session; cost = 0; state = with_query session (record query { made = Some (made + 1) }) state }

-- its probes cost nothing, and its answer costs what they read
abbrev pub answered_effect : State → ℕ → OpenQuery → DeskEffect
answered_effect state session query = record {
  report = Answered query.prepared.bound query.plan query.prepared.header (answer_of query) (reads_of query);
  cost = reads_of query;
  state = without_query session state;
}

-- where so many of its probes were made
abbrev pub query_effect : State → ℕ → OpenQuery → Option ℕ → Option DeskEffect
query_effect state session query None = None
query_effect state session query (Some made) =
    Some (if nat_lt made (length (probes_of query)) then probed_effect state session query made else answered_effect state session query)

abbrev pub stepped_effect : State → ℕ → Option OpenQuery → Option DeskEffect
stepped_effect state session None = Some (refused state (SessionIdle session))
stepped_effect state session (Some query) = query_effect state session query query.made

-- ---- each event

abbrev pub action_of_event : Settings → State → Event → Option DeskAction
action_of_event settings state (Said session statement) = Some (said_action settings state session (query_of session state) statement)
action_of_event settings state (Stepped session) = option_map AtOnce (stepped_effect state session (query_of session state))

-- ---- out of memory

abbrev pub lost : State → ℕ → Option OpenQuery → State
lost state session None = state
lost state session (Some query) = with_query session (record query { made = None }) state

-- in an event that goes on with a query, that query is lost, and all else is as before
abbrev pub wanting : State → Event → State
wanting state (Said session statement) = state
wanting state (Stepped session) = lost state session (query_of session state)
