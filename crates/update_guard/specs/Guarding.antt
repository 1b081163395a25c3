-- What a guard keeps.
--     IndexesOf accesses rows indexes   each constraint has the index of its table's rows
--     IsGuarded schema rows indexes     rows fit their tables, the constraints hold, and each has its index
use Rattle.std.specs.Prelude.{◌≡◌, ◌<◌, ◌≤◌, ℕ, List, [], length, All, slice_index_or}
use Rattle.beas_core.specs.declared.schema.Access.{Access}
use Rattle.beas_core.specs.Types.{Row}
use Rattle.access_index.specs.Index.{Index, IsIndexOf}
use Rattle.catalogue.specs.Schema.{Schema, no_table}
use Rattle.catalogue.specs.Stored.{HoldOver}
use Rattle.catalogue.specs.Database.{RowFits}

-- the index of a constraint's table's rows
pub record IsIndexAt (rows : List (List Row)) (index : Index) (access : Access) : Type 0 where
  pub access_is : index.access ≡ access
  pub index_is : IsIndexOf index (slice_index_or rows access.table.0 [])

pub record IndexesOf (accesses : List Access) (rows : List (List Row)) (indexes : List Index) : Type 0 where
  pub count : length indexes ≡ length accesses
  pub each : (i : ℕ) (d : Index) (e : Access) → i < length accesses → IsIndexAt rows (slice_index_or indexes i d) (slice_index_or accesses i e)

pub record IsGuarded (schema : Schema) (rows : List (List Row)) (indexes : List Index) : Type 0 where
  pub tables : length rows ≡ length schema.tables
  pub few : All (λ r. length r ≤ 16777216) rows
  pub fits : (i : ℕ) → i < length rows → All (RowFits (slice_index_or schema.tables i no_table).columns) (slice_index_or rows i [])
  pub indexed : IndexesOf schema.accesses rows indexes
  pub hold : HoldOver schema.accesses rows
