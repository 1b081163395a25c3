-- A guard as the database that it keeps, and what hits stand for in it.
--     database_in guarded           the database
--     members_of guarded found      the tuples that hits stand for, in the index of their constraint
--     stands_in guarded found       hits stand for tuples of that index as it is
use Rattle.std.specs.Prelude.{List}
use Rattle.beas_core.specs.Found.{Found}
use Rattle.beas_core.specs.Types.{Row}
use Rattle.access_index.specs.Index.{members_at, stands_at}
use Rattle.catalogue.specs.Database.{Database}
use Rattle.catalogue.specs.Stored.{database_of}
use Rattle.update_guard.specs.Stored.{index_with_id}
use Rattle.word_index.specs.declared.guarded.WordGuarded.{WordGuarded}

abbrev pub database_in : WordGuarded → Database
database_in guarded = database_of guarded.catalogue guarded.rows

abbrev pub members_of : WordGuarded → Found → List Row
members_of guarded found = members_at (index_with_id guarded.indexes found.access) found

abbrev pub stands_in : WordGuarded → Found → Type 0
stands_in guarded found = stands_at (index_with_id guarded.indexes found.access) found
