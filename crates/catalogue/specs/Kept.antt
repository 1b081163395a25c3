-- What a catalogue keeps beside its lists, so that nothing is found by a walk.
--     MayMakeTable, MayMakeAccess       a table or a constraint that can be made
--     IsKept ..                         names give the numbers of tables and the ids of constraints, and each table has the ids of its constraints
use Rattle.std.specs.Prelude.{◌≡◌, ◌<◌, ℕ, List, [], length, map, find, position, slice_index_or, Option, Vec, None, false, option_map}
use Rattle.std.specs.Str.{bytes_eq}
use Rattle.std.specs.declared.alloc.Global.{Global}
use Rattle.beas_core.specs.declared.schema.Access.{Access}
use Rattle.beas_core.specs.declared.schema.AccessId.{AccessId}
use Rattle.catalogue.specs.declared.tables.TableSchema.{TableSchema}
use Rattle.beas_core.specs.Shapes.{AccessIsWellFormed}
use Rattle.catalogue.specs.Schema.{Schema, SchemaIsSound, TableIsSound, table_named, columns_at, has_access, access_has_name, accesses_on}

-- ids in a vector
abbrev pub Ids : Type 0
Ids = Vec AccessId Global

abbrev pub id_of_access_named : List Access → List ℕ → Option ℕ
id_of_access_named accesses name = option_map (λ a. a.id.0) (find (access_has_name name) accesses)

abbrev pub ids_on : List Access → ℕ → List AccessId
ids_on accesses table = map (λ a. a.id) (accesses_on accesses (record { 0 = table }))

pub record IsKept (schema : Schema) (table_numbers access_ids : List ℕ → Option ℕ) (by_table : List (List AccessId)) : Type 0 where
  pub sound : SchemaIsSound schema
  pub tables_by_name : (name : List ℕ) → table_numbers name ≡ position (λ t. bytes_eq t.name name) schema.tables
  pub accesses_by_name : (name : List ℕ) → access_ids name ≡ id_of_access_named schema.accesses name
  pub table_count : length by_table ≡ length schema.tables
  pub ids_by_table : (table : ℕ) → table < length by_table → slice_index_or by_table table [] ≡ ids_on schema.accesses table

-- a table that can be made: its name is free, and there is room
pub record MayMakeTable (schema : Schema) (table : TableSchema) : Type 0 where
  pub free : table_named schema table.name ≡ None
  pub room : length schema.tables < 1024
  pub sound : TableIsSound table

-- a constraint that can be made: its name is free, it is one of a table, and its id is new
pub record MayMakeAccess (schema : Schema) (access : Access) : Type 0 where
  pub free : has_access schema access.name ≡ false
  pub room : schema.created < 65536
  pub id : access.id.0 ≡ schema.created
  pub table : access.table.0 < length schema.tables
  pub form : AccessIsWellFormed (length (columns_at schema access.table)) access
