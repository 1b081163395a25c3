-- A part: a table as it was when it was frozen, with the constraints that were live on it.
--     Part                              its table, the rows of the table, and the constraints
--     part_of db table                  a table of a database as it is now
--     rows_in part                      the rows of each table: those of its own, and none of the others
--     ArePlacesOn accesses table places       where the constraints on a table stand among all
--     IsPart table rows accesses indexes      the constraints are on the table and hold over its rows, and each has its index of them
use Rattle.std.specs.Prelude.{◌≡◌, ◌<◌, ◌≤◌, ◌==◌, if◌then◌else◌, ℕ, List, [], length, map, All, AllPairs, slice_index_or}
use Rattle.beas_core.specs.declared.schema.Access.{Access}
use Rattle.beas_core.specs.declared.schema.TableId.{TableId}
use Rattle.beas_core.specs.Types.{Row, TableRows}
use Rattle.beas_core.specs.Groups.{Holds}
use Rattle.access_index.specs.Index.{Index, IsIndexOf}
use Rattle.catalogue.specs.Database.{Database, rows_at}
use Rattle.catalogue.specs.Schema.{accesses_on}
use Rattle.update_guard.specs.Indexing.{no_access}

pub record Part : Type 0 where
  pub table : TableId
  pub rows : List Row
  pub accesses : List Access

abbrev pub part_of : Database → TableId → Part
part_of db table = record { table = table; rows = rows_at db table; accesses = accesses_on db.accesses table }

abbrev pub rows_in : Part → TableRows
rows_in part id = if id.0 == part.table.0 then part.rows else []

abbrev pub access_at : List Access → ℕ → Access
access_at accesses place = slice_index_or accesses place no_access

pub record ArePlacesOn (accesses : List Access) (table : TableId) (places : List ℕ) : Type 0 where
  pub within : All (λ place. place < length accesses) places
  pub on : map (access_at accesses) places ≡ accesses_on accesses table

pub record IsPartIndex (table : TableId) (rows : List Row) (index : Index) (access : Access) : Type 0 where
  pub access_is : index.access ≡ access
  pub index_is : IsIndexOf index rows
  pub on : access.table ≡ table
  pub holds : Holds rows access
  pub bound : 1 ≤ access.bound

pub record IsPart (table : TableId) (rows : List Row) (accesses : List Access) (indexes : List Index) : Type 0 where
  pub count : length indexes ≡ length accesses
  pub each : (i : ℕ) (d : Index) (e : Access) → i < length accesses
      → IsPartIndex table rows (slice_index_or indexes i d) (slice_index_or accesses i e)
  pub ids_rise : AllPairs (λ a b. a.id.0 < b.id.0) accesses
