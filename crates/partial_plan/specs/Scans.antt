-- Scans: constraints whose indexes are built for one query, and a port that has them beside its own.
--     scanned_rows sizes scans            how many rows are counted for the indexes of all, shared or not; `sizes` has the number of rows of each table
--     AreBuilt tables scans indexes       there is an index for each scan, in their order, over the rows of its table
--     HaveSameColumns a b                 two scans have the same columns, so the same groups over the rows of one table
--     index_under scan index              an index that stands for another scan of its columns
--     IsAlike indexes scan found          one of some indexes is of the scan's table and columns
--     accesses_with accesses indexes      the port's constraints, followed by those of the indexes
--     index_with indexes id               the index of the constraint with this id, if there is one
--     members_with, StandsWith            what hits stand for: in the index of their constraint, where it is a scan, and else in the port
--     IndexesStand accesses rows indexes  the indexes are of the port's rows, hold over them, and have ids that none of its constraints has
use Rattle.std.specs.Prelude.{◌≡◌, ◌≤◌, ◌==◌, ◌++◌, ℕ, false, List, [], length, map, sum_by, find, All, Contains, slice_index_or, Option, None, Some}
use Rattle.beas_core.specs.declared.schema.Access.{Access}
use Rattle.beas_core.specs.declared.schema.AccessId.{AccessId}
use Rattle.beas_core.specs.declared.schema.TableId.{TableId}
use Rattle.beas_core.specs.Types.{Row, TableRows}
use Rattle.beas_core.specs.Found.{Found}
use Rattle.beas_core.specs.Groups.{Holds}
use Rattle.beas_core.specs.Derivations.{is_live}
use Rattle.access_index.specs.Index.{Index, IsIndexOf, members_at, stands_at}

-- ---- what is counted for them

-- how many rows each table has
abbrev pub TableSizes : Type 0
TableSizes = TableId → ℕ

abbrev pub sizes_of : TableRows → TableSizes
sizes_of rows id = length (rows id)

-- the rows of tables in the order of their ids
abbrev pub rows_of_tables : List (List Row) → TableRows
rows_of_tables tables id = slice_index_or tables id.0 []

abbrev pub sizes_of_tables : List (List Row) → TableSizes
sizes_of_tables tables = sizes_of (rows_of_tables tables)

abbrev pub scanned_rows : TableSizes → List Access → ℕ
scanned_rows sizes scans = sum_by (λ scan. sizes scan.table) scans

pub record AreBuilt (tables : List (List Row)) (scans : List Access) (indexes : List Index) : Type 0 where
  pub accesses : map (λ index. index.access) indexes ≡ scans
  pub each : All (λ index. IsIndexOf index (rows_of_tables tables index.access.table)) indexes

-- ---- one index for several scans

pub record HaveSameColumns (a b : Access) : Type 0 where
  pub key : a.key ≡ b.key
  pub fetched : a.fetched ≡ b.fetched

abbrev pub index_under : Access → Index → Index
index_under scan index = record { access = scan; total = index.total; buckets = index.buckets }

-- one of some indexes is of the scan's table and columns
pub record IsAlike (indexes : List Index) (scan : Access) (found : Index) : Type 0 where
  pub among : Contains indexes found
  pub table : found.access.table ≡ scan.table
  pub columns : HaveSameColumns found.access scan

-- ---- the port

abbrev pub accesses_with : List Access → List Index → List Access
accesses_with accesses indexes = accesses ++ map (λ index. index.access) indexes

abbrev pub index_with : List Index → AccessId → Option Index
index_with indexes id = find (λ index. index.access.id.0 == id.0) indexes

abbrev pub members_with : Option Index → Found → List Row → List Row
members_with None found other = other
members_with (Some index) found other = members_at index found

abbrev pub StandsWith : Option Index → Found → Type 0 → Type 0
StandsWith None found other = other
StandsWith (Some index) found other = stands_at index found

pub record IsScanIndex (rows : TableRows) (index : Index) : Type 0 where
  pub index_is : IsIndexOf index (rows index.access.table)
  pub holds : Holds (rows index.access.table) index.access
  pub bound : 1 ≤ index.access.bound

pub record IndexesStand (accesses : List Access) (rows : TableRows) (indexes : List Index) : Type 0 where
  pub apart : All (λ index. is_live accesses index.access.id ≡ false) indexes
  pub each : All (IsScanIndex rows) indexes
