-- A database, and what its updates make of it.
--     Database                        tables with their rows, the live access constraints in order of creation, and how many were ever created
--     schema_of db                    the database without its rows
--     rows_at db id                   the rows of a table
--     with_table, with_rows, with_access, without_access      a table made, a table's rows replaced, a constraint made and dropped
--     with_more_rows db id rows       rows added at the end of a table
--     with_rows_kept block db         the rows of the block's one table that meet all its conditions are gone
--     DatabaseIsSound db              what is true of every database
use Rattle.std.specs.Prelude.{◌≡◌, ◌<◌, ◌+◌, ◌^◌, Bool, true, false, IsTrue, not, ℕ, List, [], ◌∷◌, ◌++◌, length, map, filter, zip, All, slice_index_or, slice_set}
use Rattle.std.specs.List.{list_all}
use Rattle.beas_core.specs.declared.schema.Access.{Access}
use Rattle.beas_core.specs.declared.schema.Column.{Column}
use Rattle.beas_core.specs.declared.schema.ColType.{ColType}
use Rattle.beas_core.specs.declared.schema.ColType.TheVariants.{Integer, Words}
use Rattle.beas_core.specs.declared.schema.TableId.{TableId}
use Rattle.beas_core.specs.declared.query.Block.{Block}
use Rattle.beas_core.specs.declared.value.Value.{Value}
use Rattle.beas_core.specs.declared.value.Value.TheVariants.{Int, Str}
use Rattle.beas_core.specs.Full.{meets}
use Rattle.beas_core.specs.Groups.{Holds}
use Rattle.catalogue.specs.declared.tables.TableSchema.{TableSchema}
use Rattle.catalogue.specs.Schema.{Schema, SchemaIsSound, access_has_name}

pub record Table : Type 0 where
  pub name : List ℕ
  pub columns : List Column
  pub rows : List (List Value)

pub record Database : Type 0 where
  pub tables : List Table
  pub accesses : List Access
  pub created : ℕ

abbrev pub table_schema : Table → TableSchema
table_schema table = record { name = table.name; columns = table.columns }

abbrev pub schema_of : Database → Schema
schema_of db = record { tables = map table_schema db.tables; accesses = db.accesses; created = db.created }

abbrev pub empty_table : Table
empty_table = record { name = []; columns = []; rows = [] }

abbrev pub rows_at : Database → TableId → List (List Value)
rows_at db id = (slice_index_or db.tables id.0 empty_table).rows

abbrev pub with_table : Database → List ℕ → List Column → Database
with_table db name columns = record db { tables = db.tables ++ record { name = name; columns = columns; rows = [] } ∷ [] }

abbrev pub with_rows : Database → TableId → List (List Value) → Database
with_rows db id rows = record db { tables = slice_set db.tables id.0 (record (slice_index_or db.tables id.0 empty_table) { rows = rows }) }

abbrev pub with_access : Database → Access → Database
with_access db access = record db { accesses = db.accesses ++ access ∷ []; created = db.created + 1 }

abbrev pub without_access : Database → List ℕ → Database
without_access db name = record db { accesses = filter (λ a. not (access_has_name name a)) db.accesses }

abbrev pub with_more_rows : Database → TableId → List (List Value) → Database
with_more_rows db id rows = with_rows db id (rows_at db id ++ rows)

-- the table of a block of one atom
abbrev pub block_table : Block → TableId
block_table block = slice_index_or (map (λ a. a.table) block.atoms) 0 (record { 0 = 0 })

-- the rows that fail some condition of a block of one atom; where it has none, no row is kept
abbrev pub kept_rows : Block → List (List Value) → List (List Value)
kept_rows block rows = filter (λ row. not (meets block (row ∷ []))) rows

abbrev pub with_rows_kept : Block → Database → Database
with_rows_kept block db = with_rows db (block_table block) (kept_rows block (rows_at db (block_table block)))

abbrev pub has_kind : ColType → Value → Bool
has_kind Integer (Int number) = true
has_kind Integer (Str text) = false
has_kind Words (Int number) = false
has_kind Words (Str text) = true

-- a row has a value of the column's type for each column
pub record RowFits (columns : List Column) (row : List Value) : Type 0 where
  pub width : length row ≡ length columns
  pub types : IsTrue (list_all (λ p. has_kind p.0.kind p.1) (zip columns row))

pub record TableFits (table : Table) : Type 0 where
  pub few_rows : length table.rows < 2 ^ 32
  pub rows : All (RowFits table.columns) table.rows

pub record DatabaseIsSound (db : Database) : Type 0 where
  pub schema : SchemaIsSound (schema_of db)
  pub tables : All TableFits db.tables
  pub holds : All (λ a. Holds (rows_at db a.table) a) db.accesses
