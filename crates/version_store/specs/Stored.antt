-- A desk as it is stored.
--     table_in, rows_in, constraints_in kept      of a table that is kept: which it is, its rows and its constraints
--     Open                                        an open query as it is stored
--     world_at, held_at db query                  what it goes on seeing over a database
--     IsOpenAt db query                           so it stands between two turns
--     probes_in, share_in cursor                  the probes that a cursor made, and what they counted; none after memory ran out
--     AreCounted query cursor                     a cursor counts what its probes fetched, which is at most the query's reads, and these are at
--                                                 most the number that was announced
--     AreKept db queries                          so the open queries stand between two events
--     IsNew session number prepared query         a query that is announced, as it is opened
--     Opens session number prepared old new       such a query stands after those that were open
--     state_in, seen_in session queries           the state of a desk, and what is seen of it
use Rattle.std.specs.Prelude.{◌≡◌, ◌≤◌, ◌++◌, if◌then◌else◌, ℕ, false, List, [], ◌∷◌, map, All, None}
use Rattle.beas_core.specs.declared.plan.Prepared.{Prepared}
use Rattle.beas_core.specs.declared.schema.Access.{Access}
use Rattle.beas_core.specs.declared.schema.TableId.{TableId}
use Rattle.beas_core.specs.Queries.{BlockProbe}
use Rattle.beas_core.specs.Types.{TableRows}
use Rattle.catalogue.specs.Database.{Database, rows_at, schema_of}
use Rattle.catalogue.specs.Schema.{SchemaIsSound}
use Rattle.cursor_executor.specs.Fetching.{Seen as CursorSeen, probed, reads_fetched}
use Rattle.desk_model.specs.OpenQueries.{OpenQuery, reads_of}
use Rattle.version_store.specs.declared.open.OpenQuery.{OpenQuery as Stored}
use Rattle.block_walk.specs.Worlds.{World}
use Rattle.version_store.specs.Held.{IsOpen, held_of, world_of}
use Rattle.session.specs.declared.session.Session.{Session}
use Rattle.session.specs.Applying.{database_of, settings_of}
use Rattle.session.specs.Effects.{plan_shown}
use Rattle.word_index.specs.Freezing.{part_in}
use Rattle.word_index.specs.Parts.{rows_in as rows_of_part}
use Rattle.desk_model.specs.Desks.{OneEach, State}
use Rattle.version_store.specs.declared.store.KeptTable.{KeptTable}
use Rattle.version_store.specs.Desks.{Seen}

abbrev pub table_in : KeptTable → TableId
table_in kept = kept.frozen.table

abbrev pub rows_in : KeptTable → TableRows
rows_in kept = rows_of_part (part_in kept.frozen)

abbrev pub constraints_in : KeptTable → List Access
constraints_in kept = kept.frozen.accesses

abbrev pub Open : Type 0
Open = Stored KeptTable

abbrev pub world_at : Database → Open → World
world_at db query = world_of table_in rows_in constraints_in (rows_at db) db.accesses query.parts.items

abbrev pub IsOpenAt : Database → Open → Type 0
IsOpenAt db query = IsOpen table_in rows_in constraints_in (rows_at db) db.accesses query

abbrev pub held_at : Database → Open → OpenQuery
held_at db query = held_of table_in rows_in constraints_in (rows_at db) db.accesses query

abbrev pub probes_in : CursorSeen → List BlockProbe
probes_in cursor = if cursor.failed then [] else probed cursor.fetched

abbrev pub share_in : CursorSeen → ℕ
share_in cursor = if cursor.failed then 0 else cursor.reads

pub record AreCounted (query : OpenQuery) (cursor : CursorSeen) : Type 0 where
  pub reads : cursor.failed ≡ false → cursor.reads ≡ reads_fetched cursor.fetched
  pub most : cursor.failed ≡ false → cursor.reads ≤ reads_of query
  pub bound : reads_of query ≤ query.prepared.bound

pub record AreKept (db : Database) (queries : List Open) : Type 0 where
  pub sound : SchemaIsSound (schema_of db)
  pub one_each : OneEach (record { db = db; queries = map (held_at db) queries })
  pub open_queries : All (IsOpenAt db) queries
  pub counts : All (λ query. AreCounted (held_at db query) query.cursor) queries

-- a query that is announced, as it is opened
pub record IsNew (session : Session) (number : ℕ) (prepared : Prepared) (query : Open) : Type 0 where
  pub session_is : query.session ≡ number
  pub cursor_is : query.cursor ≡ record { prepared = prepared; fetched = []; reads = 0; failed = false; answer = None }
  pub header_is : query.header ≡ prepared.header
  pub plan_is : query.plan ≡ plan_shown session.explain (database_of session) prepared
  pub no_parts : query.parts.items ≡ []

-- it stands after those that were open
pub record Opens (session : Session) (number : ℕ) (prepared : Prepared) (old new : List Open) : Type 0 where
  pub query : Open
  pub begins : IsNew session number prepared query
  pub stands : new ≡ old ++ query ∷ []

abbrev pub state_in : Session → List Open → State
state_in session queries = record { db = database_of session; queries = map (held_at (database_of session)) queries }

abbrev pub seen_in : Session → List Open → Seen
seen_in session queries = record {
  settings = settings_of session;
  state = state_in session queries;
  shares = map (λ query. share_in query.cursor) queries;
  probes = map (λ query. probes_in query.cursor) queries;
}
