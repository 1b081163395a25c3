-- A schema and the rows of its tables as a database: what is read of it, what updates make of it, and why they are refused.
use Rattle.std.proofs.Common.{◌≡◌, ◌∙◌, ◌+◌, ℕ, zero, suc, List, [], ◌∷◌, ◌++◌, map, length, get_or, set, ap, refl, arith, if◌then◌else◌}
use Rattle.std.specs.Option.{option_or, is_none}
use Rattle.std.specs.Prelude.{nat_lt}
use Rattle.beas_core.specs.declared.limits.Limits.{Limits}
use Rattle.beas_core.specs.declared.refusal.Counted.TheVariants.{Rows}
use Rattle.beas_core.specs.declared.refusal.Refusal.TheVariants.{TooMany}
use Rattle.beas_core.specs.declared.schema.AccessSpec.{AccessSpec}
use Rattle.beas_core.specs.declared.schema.Column.{Column}
use Rattle.beas_core.specs.declared.schema.TableId.{TableId}
use Rattle.beas_core.specs.Results.{refused_if}
use Rattle.beas_core.specs.Types.{Row}
use Rattle.catalogue.specs.declared.tables.TableSchema.{TableSchema}
use Rattle.catalogue.specs.Schema.{Schema, accesses_on, columns_at, schema_with_table}
use Rattle.catalogue.specs.Database.{Database, table_schema, schema_of, rows_at, empty_table, with_table, with_rows}
use Rattle.catalogue.specs.Refusing.{insert_refusal, wrong_width, wrong_type, broken_bound, admit_refusal, already_broken, new_access, create_access_refusal}
use Rattle.catalogue.specs.Stored.{tables_with, database_of, create_access_reads}

-- tables and their rows, joined
schemas_of_joined : (tables : List TableSchema) (rows : List (List Row)) → length rows ≡ length tables → map table_schema (tables_with tables rows) ≡ tables
schemas_of_joined [] rows e = refl
schemas_of_joined (t ∷ tables) [] e = absurd (omega (arith, e))
schemas_of_joined (t ∷ tables) (r ∷ rows) e = ap (λ ts. t ∷ ts) (schemas_of_joined tables rows (omega (arith, e)))

pub schema_of_stored : (schema : Schema) (rows : List (List Row)) → length rows ≡ length schema.tables → schema_of (database_of schema rows) ≡ schema
schema_of_stored schema rows e = ap (λ ts. let s : Schema = record { tables = ts; accesses = schema.accesses; created = schema.created } in s)
    (schemas_of_joined schema.tables rows e)

pub length-joined : (tables : List TableSchema) (rows : List (List Row)) → length rows ≡ length tables → length (tables_with tables rows) ≡ length tables
length-joined [] rows e = refl
length-joined (t ∷ tables) [] e = absurd (omega (arith, e))
length-joined (t ∷ tables) (r ∷ rows) e = ap suc (length-joined tables rows (omega (arith, e)))

rows_of_joined : (tables : List TableSchema) (rows : List (List Row)) (i : ℕ) → length rows ≡ length tables
    → (get_or (tables_with tables rows) i empty_table).rows ≡ get_or rows i []
rows_of_joined [] [] i e = refl
rows_of_joined [] (r ∷ rows) i e = absurd (omega (arith, e))
rows_of_joined (t ∷ tables) [] i e = absurd (omega (arith, e))
rows_of_joined (t ∷ tables) (r ∷ rows) zero e = refl
rows_of_joined (t ∷ tables) (r ∷ rows) (suc i) e = rows_of_joined tables rows i (omega (arith, e))

pub rows_at_stored : (schema : Schema) (rows : List (List Row)) (id : TableId) → length rows ≡ length schema.tables
    → rows_at (database_of schema rows) id ≡ get_or rows id.0 []
rows_at_stored schema rows id e = rows_of_joined schema.tables rows id.0 e

joined-push : (tables : List TableSchema) (rows : List (List Row)) (name : List ℕ) (columns : List Column) → length rows ≡ length tables
    → tables_with (tables ++ record { name = name; columns = columns } ∷ []) (rows ++ [] ∷ [])
    ≡ tables_with tables rows ++ record { name = name; columns = columns; rows = [] } ∷ []
joined-push [] [] name columns e = refl
joined-push [] (r ∷ rows) name columns e = absurd (omega (arith, e))
joined-push (t ∷ tables) [] name columns e = absurd (omega (arith, e))
joined-push (t ∷ tables) (r ∷ rows) name columns e = ap (λ ts. record { name = t.name; columns = t.columns; rows = r } ∷ ts)
    (joined-push tables rows name columns (omega (arith, e)))

joined-set : (tables : List TableSchema) (rows : List (List Row)) (i : ℕ) (r : List Row) → length rows ≡ length tables
    → tables_with tables (set rows i r) ≡ set (tables_with tables rows) i (record (get_or (tables_with tables rows) i empty_table) { rows = r })
joined-set [] [] i r e = refl
joined-set [] (q ∷ rows) i r e = absurd (omega (arith, e))
joined-set (t ∷ tables) [] i r e = absurd (omega (arith, e))
joined-set (t ∷ tables) (q ∷ rows) zero r e = refl
joined-set (t ∷ tables) (q ∷ rows) (suc i) r e = ap (λ ts. record { name = t.name; columns = t.columns; rows = q } ∷ ts)
    (joined-set tables rows i r (omega (arith, e)))

pub stored_with_table : (schema : Schema) (rows : List (List Row)) (name : List ℕ) (columns : List Column) → length rows ≡ length schema.tables
    → database_of (schema_with_table schema name columns) (rows ++ [] ∷ []) ≡ with_table (database_of schema rows) name columns
stored_with_table schema rows name columns e =
    ap (λ ts. let d : Database = record { tables = ts; accesses = schema.accesses; created = schema.created } in d)
    (joined-push schema.tables rows name columns e)

pub stored_with_rows : (schema : Schema) (rows : List (List Row)) (id : TableId) (r : List Row) → length rows ≡ length schema.tables
    → database_of schema (set rows id.0 r) ≡ with_rows (database_of schema rows) id r
stored_with_rows schema rows id r e =
    ap (λ ts. let d : Database = record { tables = ts; accesses = schema.accesses; created = schema.created } in d) (joined-set schema.tables rows id.0 r e)

-- the refusal of a constraint over the database that is kept, and what its making reads
pub refusal_of_stored : (limits : Limits) (schema : Schema) (rows : List (List Row)) (spec : AccessSpec) → length rows ≡ length schema.tables
    → create_access_refusal limits (database_of schema rows) spec
    ≡ option_or (admit_refusal limits schema spec) (already_broken (get_or rows (new_access schema spec).table.0 []) (new_access schema spec))
refusal_of_stored limits schema rows spec e =
    ap (λ s. option_or (admit_refusal limits s spec) (already_broken (rows_at (database_of schema rows) (new_access s spec).table) (new_access s spec)))
    (schema_of_stored schema rows e)
    ∙ ap (λ r. option_or (admit_refusal limits schema spec) (already_broken r (new_access schema spec)))
    (rows_at_stored schema rows (new_access schema spec).table e)

pub reads_of_stored : (limits : Limits) (schema : Schema) (rows : List (List Row)) (spec : AccessSpec) → length rows ≡ length schema.tables
    → create_access_reads limits (database_of schema rows) spec
    ≡ (if is_none (admit_refusal limits schema spec) then length (get_or rows (new_access schema spec).table.0 []) else 0)
reads_of_stored limits schema rows spec e =
    ap (λ s. if is_none (admit_refusal limits s spec) then length (rows_at (database_of schema rows) (new_access s spec).table) else 0)
    (schema_of_stored schema rows e)
    ∙ ap (λ (r : List Row). if is_none (admit_refusal limits schema spec) then length r else 0) (rows_at_stored schema rows (new_access schema spec).table e)

-- the refusal of rows over the database that is kept
pub insert_refusal_of_stored : (limits : Limits) (schema : Schema) (rows : List (List Row)) (id : TableId) (added : List Row)
    → length rows ≡ length schema.tables
    → insert_refusal limits (database_of schema rows) id added
    ≡ option_or (wrong_width (columns_at schema id) added) (option_or (wrong_type (columns_at schema id) added)
    (option_or (refused_if (nat_lt limits.rows (length (get_or rows id.0 []) + length added)) (TooMany Rows limits.rows))
    (broken_bound (accesses_on schema.accesses id) (get_or rows id.0 []) added)))
insert_refusal_of_stored limits schema rows id added e =
    ap (λ s. option_or (wrong_width (columns_at s id) added) (option_or (wrong_type (columns_at s id) added)
    (option_or (refused_if (nat_lt limits.rows (length (rows_at (database_of schema rows) id) + length added)) (TooMany Rows limits.rows))
    (broken_bound (accesses_on schema.accesses id) (rows_at (database_of schema rows) id) added)))) (schema_of_stored schema rows e)
    ∙ ap (λ (own : List Row). option_or (wrong_width (columns_at schema id) added) (option_or (wrong_type (columns_at schema id) added)
    (option_or (refused_if (nat_lt limits.rows (length own + length added)) (TooMany Rows limits.rows))
    (broken_bound (accesses_on schema.accesses id) own added)))) (rows_at_stored schema rows id e)
