-- What of a table stays as it was: its rows, and the constraints on it. The live constraints are those `before` and those `after`, and the
-- rows are the `old` ones and the `new` ones.
--     SameOn before after old new t             a table has the rows that it had, and each constraint that was live on it is live, and the same
--     SameForQuery before after old new query   so it is of each table that the query names
--     QueryStays before after old new prepared  the query sees the same rows and constraints of its derivations: so it fits, with the same
--                                               probes, reads and full answer
--     KeepsTable table rows accesses own other part      a part has its table's rows and its table's live constraints, as a store has them
--     Update, updated db update                 an update of a database, and the database after it: a table or a constraint is new, the rows
--                                               of a table are replaced by others, or the constraints with a name are dropped
--     IsUntouched db update t                   the update changes neither the rows of the table nor drops a constraint on it
use Rattle.std.specs.Prelude.{◌≡◌, ◌≢◌, ◌==◌, true, ℕ, List, filter, All, Contains}
use Rattle.beas_core.specs.declared.schema.Access.{Access}
use Rattle.beas_core.specs.declared.schema.AccessId.{AccessId}
use Rattle.beas_core.specs.declared.schema.Column.{Column}
use Rattle.beas_core.specs.declared.schema.TableId.{TableId}
use Rattle.beas_core.specs.declared.plan.Prepared.{Prepared}
use Rattle.beas_core.specs.Types.{Row, TableRows}
use Rattle.beas_core.specs.Derivations.{access_in, is_live}
use Rattle.beas_core.specs.Fits.{KeepsConstraints, KeepsRows, PlanFits}
use Rattle.beas_core.specs.Full.{full_of}
use Rattle.beas_core.specs.Queries.{query_probes, query_reads}
use Rattle.beas_core.specs.Trees.{QueryTree, blocks_of}
use Rattle.catalogue.specs.Database.{Database, with_table, with_rows, with_access, without_access}
use Rattle.catalogue.specs.Schema.{access_has_name}

pub record SameOn (before after : List Access) (old new : TableRows) (t : TableId) : Type 0 where
  pub rows : new t ≡ old t
  pub constraints : (id : AccessId) → is_live before id ≡ true → (access_in before id).table.0 ≡ t.0
      → (is_live after id ≡ true) × (access_in after id ≡ access_in before id)

abbrev pub SameForQuery : List Access → List Access → TableRows → TableRows → QueryTree → Type 0
SameForQuery before after old new query = All (λ block. All (λ a. SameOn before after old new a.table) block.atoms) (blocks_of query)

pub record QueryStays (before after : List Access) (old new : TableRows) (prepared : Prepared) : Type 0 where
  pub constraints : KeepsConstraints before after prepared.derivations
  pub rows : KeepsRows old new prepared.query
  pub fits : PlanFits after prepared
  pub probes : query_probes new after prepared.guided prepared.derivations prepared.query
      ≡ query_probes old before prepared.guided prepared.derivations prepared.query
  pub reads : query_reads new after prepared.guided prepared.derivations prepared.query
      ≡ query_reads old before prepared.guided prepared.derivations prepared.query
  pub answer : full_of new prepared.query ≡ full_of old prepared.query

pub record KeepsTable {P : Type 0} (table : P → TableId) (rows : P → TableRows) (accesses : P → List Access)
    (own : List Access) (other : TableRows) (part : P) : Type 0 where
  pub rows_are : rows part (table part) ≡ other (table part)
  pub accesses_are : accesses part ≡ filter (λ a. a.table.0 == (table part).0) own

-- ---- updates

pub data Update : Type 0 where
  NewTable : List ℕ → List Column → Update
  ReplacedRows : TableId → List Row → Update
  NewAccess : Access → Update
  DroppedAccess : List ℕ → Update

abbrev pub updated : Database → Update → Database
updated db (NewTable name columns) = with_table db name columns
updated db (ReplacedRows table rows) = with_rows db table rows
updated db (NewAccess access) = with_access db access
updated db (DroppedAccess name) = without_access db name

abbrev pub IsUntouched : Database → Update → TableId → Type 0
IsUntouched db (NewTable name columns) t = Unit {0}
IsUntouched db (ReplacedRows table rows) t = table.0 ≢ t.0
IsUntouched db (NewAccess access) t = Unit {0}
IsUntouched db (DroppedAccess name) t = (a : Access) → Contains db.accesses a → access_has_name name a ≡ true → a.table.0 ≢ t.0
