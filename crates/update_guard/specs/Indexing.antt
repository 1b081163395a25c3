-- The indexes of one table's constraints while rows come and go.
--     with_rows_of rows table own         the rows of all tables, with own as those of one
--     IsPlaceOn ..                        where a table's constraint number k stands among all
--     SomeRows ..                         some rows of which these are the indexes
--     AreIndexed ..                       a table's constraints that are done have the index of the rows after, all others that of the rows before
use Rattle.std.specs.Prelude.{◌≡◌, ◌<◌, ◌≤◌, ◌==◌, ◌+◌, ◌^◌, if◌then◌else◌, ℕ, Bool, List, [], length, IsTrue, AllPairs, slice_index_or, slice_set}
use Rattle.std.specs.List.{list_any}
use Rattle.beas_core.specs.declared.schema.Access.{Access}
use Rattle.beas_core.specs.declared.schema.AccessId.{AccessId}
use Rattle.beas_core.specs.Types.{Row}
use Rattle.access_index.specs.Index.{Index}
use Rattle.catalogue.specs.Schema.{access_with_id}
use Rattle.catalogue.specs.Kept.{ids_on}
use Rattle.update_guard.specs.Guarding.{IsIndexAt, IndexesOf}

abbrev pub with_rows_of : List (List Row) → ℕ → List Row → List (List Row)
with_rows_of rows table own = slice_set rows table own

abbrev pub is_done : List AccessId → Access → Bool
is_done done access = list_any (λ id. id.0 == access.id.0) done

pub record AreIndexed (accesses : List Access) (rows : List (List Row)) (table : ℕ) (before after : List Row) (done : List AccessId)
    (indexes : List Index) : Type 0 where
  pub count : length indexes ≡ length accesses
  pub each : (i : ℕ) (d : Index) (e : Access) → i < length accesses
      → IsIndexAt (with_rows_of rows table (if is_done done (slice_index_or accesses i e) then after else before)) (slice_index_or indexes i d)
      (slice_index_or accesses i e)

-- some rows of which these are the indexes, with room for more of one table
pub record SomeRows (accesses : List Access) (table more : ℕ) (indexes : List Index) : Type 0 where
  pub rows : List (List Row)
  pub own : List Row
  pub live : table < length rows
  pub is : IndexesOf accesses (slice_set rows table own) indexes
  pub few : (i : ℕ) → length (slice_index_or (slice_set rows table own) i []) + more < 2 ^ 32

abbrev pub no_access : Access
no_access = record { id = record { 0 = 0 }; name = []; table = record { 0 = 0 }; key = []; fetched = []; bound = 0 }

-- an id in a table's list is that of a live constraint on the table
pub record IsOnTable (accesses : List Access) (table : ℕ) (id : AccessId) : Type 0 where
  pub live : IsTrue (list_any (λ x. x.id.0 == id.0) accesses)
  pub has_id : (access_with_id accesses id).id.0 ≡ id.0
  pub on : (access_with_id accesses id).table.0 ≡ table

-- the id of a table's constraint number k
abbrev pub id_at : List Access → ℕ → ℕ → AccessId
id_at accesses table k = slice_index_or (ids_on accesses table) k (record { 0 = 0 })

-- where a table's constraint number k stands among all
pub record IsPlaceOn (accesses : List Access) (table k place : ℕ) : Type 0 where
  pub rise : AllPairs (λ a b. a.id.0 < b.id.0) accesses
  pub within : place < length accesses
  pub at : (d : Access) → slice_index_or accesses place d ≡ access_with_id accesses (id_at accesses table k)
  pub is_on : IsOnTable accesses table (id_at accesses table k)

-- the indexes are those of some rows, of which these are the table's own; each table has as few rows as a guard may keep
pub record AreOwn (accesses : List Access) (table : ℕ) (own : List Row) (indexes : List Index) : Type 0 where
  pub rows : List (List Row)
  pub live : table < length rows
  pub own_is : slice_index_or rows table [] ≡ own
  pub is : IndexesOf accesses rows indexes
  pub few : (i : ℕ) → length (slice_index_or rows i []) ≤ 16777216
