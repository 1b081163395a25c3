-- Why a call is refused, if it is: for each call the first of its rules that fails.
--     first_repeated names                          the first name that stands among those before it
--     add_table_refusal limits schema name columns
--     resolve_refusal schema table key fetched
--     admit_refusal limits schema spec              also that of add_access
--     drop_access_refusal schema name
--     insert_refusal limits db id rows
--     create_access_refusal limits db spec
--     new_access schema spec                        the constraint that a statement makes
use Rattle.std.specs.Prelude.{◌==◌, ◌+◌, Bool, not, nat_le, nat_lt, ℕ, List, [], ◌∷◌, ◌++◌, length, map, find, take, zip, Option, None, option_map, is_some, unwrap_or}
use Rattle.std.specs.List.{list_any, enumerate_from, position_or_len}
use Rattle.std.specs.Option.{option_or, is_none}
use Rattle.std.specs.Str.{bytes_eq}
use Rattle.beas_core.specs.declared.limits.Limits.{Limits}
use Rattle.beas_core.specs.declared.refusal.Refusal.{Refusal}
use Rattle.beas_core.specs.declared.refusal.Refusal.TheVariants.{TableExists, UnknownTable, UnknownColumn, DuplicateName, WrongType, BadLimit, AlreadyBroken, BreaksBound, WrongWidth, TooMany, UnknownAccess}
use Rattle.beas_core.specs.declared.refusal.Counted.TheVariants.{Tables, Columns, Constraints, Rows}
use Rattle.beas_core.specs.declared.schema.Access.{Access}
use Rattle.beas_core.specs.declared.schema.AccessSpec.{AccessSpec}
use Rattle.beas_core.specs.declared.schema.Column.{Column}
use Rattle.beas_core.specs.declared.schema.ColumnId.{ColumnId}
use Rattle.beas_core.specs.declared.schema.TableId.{TableId}
use Rattle.beas_core.specs.declared.value.Value.{Value}
use Rattle.beas_core.specs.Groups.{greatest, project}
use Rattle.beas_core.specs.Results.{refused_if}
use Rattle.beas_core.specs.Spelling.{limit_in}
use Rattle.catalogue.specs.Schema.{Schema, table_named, columns_at, column_named, has_access, accesses_on}
use Rattle.catalogue.specs.Database.{Database, schema_of, rows_at, has_kind}

-- the first name that stands among those before it, if there is one
abbrev pub first_repeated : List (List ℕ) → Option (List ℕ)
first_repeated names = option_map (λ n. n.1) (find (λ n. list_any (bytes_eq n.1) (take n.0 names)) (enumerate_from 0 names))

abbrev pub repeated_name : List (List ℕ) → Option Refusal
repeated_name names = option_map DuplicateName (first_repeated names)

abbrev pub unknown_table : Schema → List ℕ → Option Refusal
unknown_table schema name = refused_if (is_none (table_named schema name)) (UnknownTable name)

abbrev pub no_such_column : List Column → List ℕ → Bool
no_such_column columns name = is_none (column_named columns name)

abbrev pub unknown_column : List Column → List (List ℕ) → Option Refusal
unknown_column columns names = option_map (UnknownColumn None) (find (no_such_column columns) names)

-- the columns of the table with this name, none where there is no such table
abbrev pub columns_of_named : Schema → List ℕ → List Column
columns_of_named schema name = columns_at schema (unwrap_or (table_named schema name) (record { 0 = 0 }))

abbrev pub add_table_refusal : Limits → Schema → List ℕ → List Column → Option Refusal
add_table_refusal limits schema name columns =
    option_or (refused_if (is_some (table_named schema name)) (TableExists name))
    (option_or (repeated_name (map (λ c. c.name) columns))
    (option_or (refused_if (nat_le limits.tables (length schema.tables)) (TooMany Tables limits.tables))
    (refused_if (nat_lt limits.columns (length columns)) (TooMany Columns limits.columns))))

abbrev pub repeated_columns : List (List ℕ) → List (List ℕ) → Option Refusal
repeated_columns key fetched = option_or (repeated_name key) (repeated_name fetched)

abbrev pub unknown_columns : List Column → List (List ℕ) → List (List ℕ) → Option Refusal
unknown_columns columns key fetched = option_or (unknown_column columns key) (unknown_column columns fetched)

abbrev pub resolve_refusal : Schema → List ℕ → List (List ℕ) → List (List ℕ) → Option Refusal
resolve_refusal schema table key fetched =
    option_or (unknown_table schema table)
    (option_or (unknown_columns (columns_of_named schema table) key fetched)
    (repeated_columns key fetched))

abbrev pub admit_refusal : Limits → Schema → AccessSpec → Option Refusal
admit_refusal limits schema spec =
    option_or (unknown_table schema spec.table)
    (option_or (unknown_columns (columns_of_named schema spec.table) spec.key spec.fetched)
    (option_or (refused_if (has_access schema spec.name) (DuplicateName spec.name))
    (option_or (repeated_columns spec.key spec.fetched)
    (option_or (refused_if (is_none (limit_in spec.limit)) (BadLimit spec.limit))
    (refused_if (nat_le limits.constraints schema.created) (TooMany Constraints limits.constraints))))))

-- the places of columns by their names
abbrev pub column_ids : List Column → List (List ℕ) → List ColumnId
column_ids columns names = map (λ n. record { 0 = position_or_len (λ c. bytes_eq c.name n) columns }) names

-- the constraint that a statement makes, which is numbered by how many were created before
abbrev pub new_access : Schema → AccessSpec → Access
new_access schema spec = record {
  id = record { 0 = schema.created };
  name = spec.name;
  table = unwrap_or (table_named schema spec.table) (record { 0 = 0 });
  key = column_ids (columns_of_named schema spec.table) spec.key;
  fetched = column_ids (columns_of_named schema spec.table) spec.fetched;
  bound = unwrap_or (limit_in spec.limit) 0;
}

abbrev pub drop_access_refusal : Schema → List ℕ → Option Refusal
drop_access_refusal schema name = refused_if (not (has_access schema name)) (UnknownAccess name)

-- the first that is there
abbrev pub first_of : List (Option Refusal) → Option Refusal
first_of [] = None
first_of (refusal ∷ refusals) = option_or refusal (first_of refusals)

-- the first row of another width
abbrev pub wrong_width : List Column → List (List Value) → Option Refusal
wrong_width columns rows =
    option_map (λ r. WrongWidth r.0 (length r.1) (length columns)) (find (λ r. not (length r.1 == length columns)) (enumerate_from 1 rows))

-- the first column of a row whose value has another type
abbrev pub misfit : List Column → List Value → Option (List ℕ)
misfit columns row = option_map (λ p. p.0.name) (find (λ p. not (has_kind p.0.kind p.1)) (zip columns row))

-- the first row with such a column, and its first one
abbrev pub wrong_type : List Column → List (List Value) → Option Refusal
wrong_type columns rows =
    option_map (λ r. WrongType r.0 (unwrap_or (misfit columns r.1) [])) (find (λ r. is_some (misfit columns r.1)) (enumerate_from 1 rows))

abbrev pub holds : List (List Value) → Access → Bool
holds rows access = nat_le (greatest rows access.key access.fetched) access.bound

-- the first constraint, in order of creation, that doesn't hold
abbrev pub broken : List Access → List (List Value) → Option Access
broken accesses rows = find (λ a. not (holds rows a)) accesses

abbrev pub breaks_bound : ℕ × List Value → Access → Refusal
breaks_bound row access = BreaksBound row.0 access.name (project access.key row.1)

-- the first row that breaks a constraint after the rows before it, and the first such constraint
abbrev pub broken_bound : List Access → List (List Value) → List (List Value) → Option Refusal
broken_bound accesses before rows =
    first_of (map (λ r. option_map (breaks_bound r) (broken accesses (before ++ take r.0 rows))) (enumerate_from 1 rows))

abbrev pub insert_refusal : Limits → Database → TableId → List (List Value) → Option Refusal
insert_refusal limits db id rows =
    option_or (wrong_width (columns_at (schema_of db) id) rows)
    (option_or (wrong_type (columns_at (schema_of db) id) rows)
    (option_or (refused_if (nat_lt limits.rows (length (rows_at db id) + length rows)) (TooMany Rows limits.rows))
    (broken_bound (accesses_on db.accesses id) (rows_at db id) rows)))

-- the constraint's greatest group passes its bound
abbrev pub already_broken : List (List Value) → Access → Option Refusal
already_broken rows access = refused_if (not (holds rows access)) (AlreadyBroken (greatest rows access.key access.fetched) access.bound)

abbrev pub create_access_refusal : Limits → Database → AccessSpec → Option Refusal
create_access_refusal limits db spec =
    option_or (admit_refusal limits (schema_of db) spec)
    (already_broken (rows_at db (new_access (schema_of db) spec).table) (new_access (schema_of db) spec))
