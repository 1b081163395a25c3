-- What a catalogue holds: tables without their rows, and the live access constraints.
--     Schema                          tables by order of creation, the live constraints in order of creation, and how many were ever created
--     table_named schema name         the table with this name, if there is one
--     columns_at schema id            the columns of a table
--     column_named columns name       the column with this name, if there is one
--     has_access schema name          whether a live constraint has this name
--     access_with_id accesses id      the live constraint with this id
--     accesses_on accesses id         the constraints on a table, in order of creation
--     schema_with_table, schema_with_access, schema_without_access      the schema after a table is made, and a constraint is made or dropped
--     SchemaIsSound schema            what is true of every catalogue
use Rattle.std.specs.Prelude.{◌≢◌, ◌≤◌, ◌<◌, ◌==◌, ◌+◌, Bool, not, ℕ, List, [], ◌∷◌, ◌++◌, length, filter, position, All, AllPairs, slice_index_or, Option, option_map, unwrap_or, find}
use Rattle.std.specs.List.{list_any}
use Rattle.std.specs.Str.{bytes_eq}
use Rattle.beas_core.specs.declared.schema.Access.{Access}
use Rattle.beas_core.specs.declared.schema.AccessId.{AccessId}
use Rattle.beas_core.specs.declared.schema.Column.{Column}
use Rattle.beas_core.specs.declared.schema.ColumnId.{ColumnId}
use Rattle.beas_core.specs.declared.schema.TableId.{TableId}
use Rattle.beas_core.specs.Shapes.{AccessIsWellFormed}
use Rattle.catalogue.specs.declared.tables.TableSchema.{TableSchema}

pub record Schema : Type 0 where
  pub tables : List TableSchema
  pub accesses : List Access
  pub created : ℕ

abbrev pub table_named : Schema → List ℕ → Option TableId
table_named schema name = option_map (λ i. record { 0 = i }) (position (λ t. bytes_eq t.name name) schema.tables)

abbrev pub no_table : TableSchema
no_table = record { name = []; columns = [] }

abbrev pub table_at : Schema → TableId → TableSchema
table_at schema id = slice_index_or schema.tables id.0 no_table

abbrev pub columns_at : Schema → TableId → List Column
columns_at schema id = (table_at schema id).columns

abbrev pub column_named : List Column → List ℕ → Option ColumnId
column_named columns name = option_map (λ i. record { 0 = i }) (position (λ c. bytes_eq c.name name) columns)

abbrev pub access_has_name : List ℕ → Access → Bool
access_has_name name access = bytes_eq access.name name

abbrev pub has_access : Schema → List ℕ → Bool
has_access schema name = list_any (access_has_name name) schema.accesses

-- the live constraint with this id
abbrev pub access_with_id : List Access → AccessId → Access
access_with_id accesses id =
    unwrap_or (find (λ a. a.id.0 == id.0) accesses) (record { id = id; name = []; table = record { 0 = 0 }; key = []; fetched = []; bound = 0 })

abbrev pub accesses_on : List Access → TableId → List Access
accesses_on accesses id = filter (λ a. a.table.0 == id.0) accesses

abbrev pub schema_with_table : Schema → List ℕ → List Column → Schema
schema_with_table schema name columns = record schema { tables = schema.tables ++ record { name = name; columns = columns } ∷ [] }

abbrev pub schema_with_access : Schema → Access → Schema
schema_with_access schema access = record schema { accesses = schema.accesses ++ access ∷ []; created = schema.created + 1 }

abbrev pub schema_without_access : Schema → List ℕ → Schema
schema_without_access schema name = record schema { accesses = filter (λ a. not (access_has_name name a)) schema.accesses }

-- a table has from 1 to 64 columns with different names
pub record TableIsSound (table : TableSchema) : Type 0 where
  pub some_column : 1 ≤ length table.columns
  pub few_columns : length table.columns ≤ 64
  pub names_once : AllPairs (λ c d. c.name ≢ d.name) table.columns

-- a constraint is one of a table of the schema
pub record AccessIsSound (schema : Schema) (access : Access) : Type 0 where
  pub table : access.table.0 < length schema.tables
  pub form : AccessIsWellFormed (length (columns_at schema access.table)) access
  pub id : access.id.0 < schema.created

pub record SchemaIsSound (schema : Schema) : Type 0 where
  pub few_tables : length schema.tables ≤ 1024
  pub few_created : schema.created ≤ 65536
  pub tables : All TableIsSound schema.tables
  pub table_names_once : AllPairs (λ s t. s.name ≢ t.name) schema.tables
  pub accesses : All (AccessIsSound schema) schema.accesses
  pub access_names_once : AllPairs (λ a b. a.name ≢ b.name) schema.accesses
  pub ids_rise : AllPairs (λ a b. a.id.0 < b.id.0) schema.accesses
