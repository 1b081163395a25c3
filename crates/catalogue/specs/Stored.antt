-- What a store keeps, as a database: a schema, and for each of its tables the rows.
--     tables_with tables rows           each table with its rows
--     database_of schema rows           the database of a schema and the rows of its tables
--     HoldOver accesses rows            each constraint holds over its table's rows
--     create_access_reads ..            how many rows a creation reads: all of the table where its statement is admitted, refused afterwards or not
use Rattle.std.specs.Prelude.{if◌then◌else◌, ℕ, List, [], ◌∷◌, length, All, slice_index_or}
use Rattle.std.specs.Option.{is_none}
use Rattle.beas_core.specs.declared.limits.Limits.{Limits}
use Rattle.beas_core.specs.declared.schema.Access.{Access}
use Rattle.beas_core.specs.declared.schema.AccessSpec.{AccessSpec}
use Rattle.beas_core.specs.Types.{Row}
use Rattle.beas_core.specs.Groups.{Holds}
use Rattle.catalogue.specs.declared.tables.TableSchema.{TableSchema}
use Rattle.catalogue.specs.Schema.{Schema}
use Rattle.catalogue.specs.Database.{Database, Table, schema_of, rows_at}
use Rattle.catalogue.specs.Refusing.{admit_refusal, new_access}

abbrev pub tables_with : List TableSchema → List (List Row) → List Table
tables_with [] rows = []
tables_with (t ∷ tables) [] = []
tables_with (t ∷ tables) (r ∷ rows) = record { name = t.name; columns = t.columns; rows = r } ∷ tables_with tables rows

abbrev pub database_of : Schema → List (List Row) → Database
database_of schema rows = record { tables = tables_with schema.tables rows; accesses = schema.accesses; created = schema.created }

abbrev pub HoldOver : List Access → List (List Row) → Type 0
HoldOver accesses rows = All (λ a. Holds (slice_index_or rows a.table.0 []) a) accesses

abbrev pub create_access_reads : Limits → Database → AccessSpec → ℕ
create_access_reads limits db spec =
    if is_none (admit_refusal limits (schema_of db) spec) then length (rows_at db (new_access (schema_of db) spec).table) else 0
