-- An open query over a store as it is and the parts that were kept for it.
--     world_of table rows accesses other own parts      the rows and the constraints that it sees: of each table those of its part, where
--                                                       there is one, and else those of the store
--     held w session cursor plan                        an open query in a world: what it goes on seeing, and how many probes its cursor made
--     IsKept w cursor                                   so a cursor stands between two turns: its query fits the world, which agrees with all
--                                                       that was fetched
--     made_by cursor                                    how many probes a cursor made, none where memory ran out in one of them
--     held_of, IsOpen                                   both of an open query as it is stored, with its header, and parts of different tables
--     cursor_of query                                   the cursor of one as it is stored
--     names prepared t                                  the query names this table
--     has_atom t block, has_part table parts t          a block has an atom of the table, and one of the parts is of it
--     HasPart table t query                             if the query names the table, there is a part of it
use Rattle.std.specs.Prelude.{◌≡◌, ◌==◌, if◌then◌else◌, ℕ, Bool, true, false, List, length, Contains, Option, Some, None}
use Rattle.std.specs.List.{list_any}
use Rattle.beas_core.specs.declared.plan.Normal.{Normal}
use Rattle.beas_core.specs.declared.plan.Prepared.{Prepared}
use Rattle.beas_core.specs.declared.schema.Access.{Access}
use Rattle.beas_core.specs.declared.schema.TableId.{TableId}
use Rattle.beas_core.specs.Fits.{Fits}
use Rattle.beas_core.specs.Types.{TableRows}
use Rattle.block_walk.specs.Worlds.{World, world}
use Rattle.cursor_executor.specs.Fetching.{AllAgree, BlockFetched, Seen, probe_of, probes_due}
use Rattle.desk_model.specs.Kept.{AreApart, accesses_with, rows_with}
use Rattle.desk_model.specs.Keeping.{kept_accesses, kept_tables}
use Rattle.desk_model.specs.OpenQueries.{OpenQuery}
use Rattle.version_store.specs.declared.open.OpenQuery.{OpenQuery as Stored}

abbrev pub world_of : {P : Type 0} → (P → TableId) → (P → TableRows) → (P → List Access) → TableRows → List Access → List P → World
world_of table rows accesses other own parts = world (rows_with table rows parts other) (accesses_with table accesses parts own)

abbrev pub made_by : Seen → Option ℕ
made_by cursor = if cursor.failed then None else Some (length cursor.fetched)

abbrev pub held : World → ℕ → Seen → List ℕ → OpenQuery
held w session cursor plan = record {
  session = session;
  prepared = cursor.prepared;
  plan = plan;
  tables = kept_tables w.rows cursor.prepared.query;
  accesses = kept_accesses w.accesses cursor.prepared.derivations;
  made = made_by cursor;
}

pub record IsKept (w : World) (cursor : Seen) : Type 0 where
  pub fits : Fits w.accesses w.rows cursor.prepared
  pub agrees : cursor.failed ≡ false → AllAgree w cursor.prepared cursor.fetched
  -- nothing else was fetched than what the query asks for
  pub asked : cursor.failed ≡ false → (f : BlockFetched) → Contains cursor.fetched f → Contains (probes_due w cursor.prepared) (probe_of f)

-- ---- as it is stored

abbrev pub held_of : {P : Type 0} → (P → TableId) → (P → TableRows) → (P → List Access) → TableRows → List Access → Stored P → OpenQuery
held_of table rows accesses other own query =
    held (world_of table rows accesses other own query.parts.items) query.session query.cursor query.plan

abbrev pub cursor_of : {P : Type 0} → Stored P → Seen
cursor_of query = query.cursor

pub record IsOpen {P : Type 0} (table : P → TableId) (rows : P → TableRows) (accesses : P → List Access) (other : TableRows)
    (own : List Access) (query : Stored P) : Type 0 where
  pub header : query.header ≡ query.cursor.prepared.header
  pub apart : AreApart table query.parts.items
  pub kept : IsKept (world_of table rows accesses other own query.parts.items) query.cursor

-- ---- parts

abbrev pub has_atom : TableId → Normal → Bool
has_atom t normal = list_any (λ a. a.table.0 == t.0) normal.atoms

abbrev pub names : Prepared → TableId → Bool
names prepared t = list_any (has_atom t) prepared.normals

abbrev pub has_part : {P : Type 0} → (P → TableId) → List P → TableId → Bool
has_part table parts t = list_any (λ part. (table part).0 == t.0) parts

abbrev pub HasPart : {P : Type 0} → (P → TableId) → TableId → Stored P → Type 0
HasPart table t query = names query.cursor.prepared t ≡ true → has_part table query.parts.items t ≡ true
