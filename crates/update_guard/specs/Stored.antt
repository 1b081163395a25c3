-- A guard as the database that it keeps, and what hits stand for in it.
--     database_in guarded           the database
--     index_with_id indexes id      the index of the constraint with this id
use Rattle.std.specs.Prelude.{◌==◌, List, [], find, unwrap_or}
use Rattle.beas_core.specs.declared.schema.AccessId.{AccessId}
use Rattle.beas_core.specs.Found.{Found}
use Rattle.beas_core.specs.Types.{Row}
use Rattle.access_index.specs.Index.{Index, members_at, stands_at}
use Rattle.catalogue.specs.Database.{Database}
use Rattle.catalogue.specs.Stored.{database_of}
use Rattle.update_guard.specs.Indexing.{no_access}
use Rattle.update_guard.specs.declared.guarded.Guarded.{Guarded}

abbrev pub database_in : Guarded → Database
database_in guarded = database_of guarded.catalogue guarded.rows

abbrev pub index_with_id : List Index → AccessId → Index
index_with_id indexes id = unwrap_or (find (λ x. x.access.id.0 == id.0) indexes) (record { access = no_access; total = 0; buckets = [] })

abbrev pub members_of : Guarded → Found → List Row
members_of guarded found = members_at (index_with_id guarded.indexes found.access) found

abbrev pub stands_in : Guarded → Found → Type 0
stands_in guarded found = stands_at (index_with_id guarded.indexes found.access) found
