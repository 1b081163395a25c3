-- A store in the terms of its database.
use Rattle.std.proofs.Common.{◌≡◌, ◌∙◌, ℕ, ◌<◌, List, [], ◌∷◌, map, length, All, get_or, ap, subst, sym, arith, Some, None, Result, Ok, Err}
use Rattle.std.specs.Option.{unwrap_or}
use Rattle.std.specs.Option.{ok_or}
use Rattle.std.proofs.lemmas.List.Elements.{All-weaker}
use Rattle.beas_core.specs.declared.query.Atom.{Atom}
use Rattle.beas_core.specs.declared.query.Block.{Block}
use Rattle.beas_core.specs.declared.schema.TableId.{TableId}
use Rattle.beas_core.specs.Shapes.{width_of}
use Rattle.beas_core.specs.Types.{Row}
use Rattle.catalogue.specs.Database.{RowFits, block_table, rows_at, schema_of}
use Rattle.catalogue.specs.Queries.{AtomIsOver, BlockIsOver, RowsAreWide}
use Rattle.beas_core.specs.declared.refusal.Refusal.TheVariants.{UnknownTable}
use Rattle.beas_core.specs.declared.errors.Fail.{Fail}
use Rattle.beas_core.specs.declared.errors.Fail.TheVariants.{NoMemory, Refused}
use Rattle.beas_core.specs.declared.refusal.Refusal.{Refusal}
use Rattle.beas_core.specs.declared.schema.ColumnId.{ColumnId}
use Rattle.beas_core.specs.Results.{Gives, IsRefusedAs}
use Rattle.catalogue.specs.Refusing.{column_ids, columns_of_named, resolve_refusal}
use Rattle.session.specs.declared.discovery.Resolved.{Resolved}
use Rattle.session.proofs.CarryFacts.{failed}
use Rattle.catalogue.specs.Schema.{Schema, columns_at, table_named}
use Rattle.session.specs.Stores.{Store, database_in}
use Rattle.session.specs.Effects.{or_refusal, resolution, resolved_in, table_or_refusal}
use Rattle.catalogue.proofs.StoredFacts.{length-joined, rows_at_stored, schema_of_stored}

pub schema_is_catalogue : (g : Store) → schema_of (database_in g) ≡ g.catalogue
schema_is_catalogue g = schema_of_stored g.catalogue g.rows g.kept.tables

pub as_many_tables : (g : Store) → length (database_in g).tables ≡ length g.catalogue.tables
as_many_tables g = length-joined g.catalogue.tables g.rows g.kept.tables

pub stored_rows_are_wide : (g : Store) → RowsAreWide g.catalogue (rows_at (database_in g))
stored_rows_are_wide g =
    λ id below.
    let columns = columns_at g.catalogue id in
    subst (λ (rs : List Row). All (λ row. length row ≡ length columns) rs) (sym (rows_at_stored g.catalogue g.rows id g.kept.tables))
    (All-weaker (RowFits columns) (λ (row : Row). length row ≡ length columns) (λ row fits. fits.width) _
    (g.kept.fits id.0 (omega (arith, below, g.kept.tables))))

pub table_found : (g : Store) (name : List ℕ) (id : TableId) → Some id ≡ table_named g.catalogue name → table_or_refusal (schema_of (database_in g)) name
    ≡ Ok id
table_found g name id e =
    ap (λ s. table_or_refusal s name) (schema_is_catalogue g) ∙ ap (λ o. ok_or o (UnknownTable name)) (sym e)

pub table_missing : (g : Store) (name : List ℕ) → None ≡ table_named g.catalogue name → table_or_refusal (schema_of (database_in g)) name
    ≡ Err (UnknownTable name)
table_missing g name e =
    ap (λ s. table_or_refusal s name) (schema_is_catalogue g) ∙ ap (λ o. ok_or o (UnknownTable name)) (sym e)

pub columns_are : (g : Store) (id : TableId) → columns_at (schema_of (database_in g)) id ≡ columns_at g.catalogue id
columns_are g id = ap (λ s. columns_at s id) (schema_is_catalogue g)

pub rows_are : (g : Store) (id : TableId) → rows_at (database_in g) id ≡ get_or g.rows id.0 []
rows_are g id = rows_at_stored g.catalogue g.rows id g.kept.tables

-- the one atom of a block is of a table that is there, with its width
first_over : (schema : Schema) (atoms : List Atom) (d : TableId) → All (AtomIsOver schema) atoms → length atoms ≡ 1
    → ((get_or (map (λ a. a.table) atoms) 0 d).0 < length schema.tables)
    × (width_of atoms 0 ≡ length (columns_at schema (get_or (map (λ a. a.table) atoms) 0 d)))
first_over schema [] d over one = absurd (omega (arith, one))
first_over schema (a ∷ atoms) d over one = let o = over 0 a (omega arith) in (o.table, o.width)

pub block_is_live : (g : Store) (block : Block) → BlockIsOver g.catalogue block → length block.atoms ≡ 1
    → (block_table block).0 < length (database_in g).tables
block_is_live g block over one = omega (arith, as_many_tables g, (first_over g.catalogue block.atoms (record { 0 = 0 }) over one).0)

pub block_is_wide : (g : Store) (block : Block) → BlockIsOver g.catalogue block → length block.atoms ≡ 1
    → width_of block.atoms 0 ≡ length (columns_at (schema_of (database_in g)) (block_table block))
block_is_wide g block over one =
    (first_over g.catalogue block.atoms (record { 0 = 0 }) over one).1 ∙ ap length (sym (columns_are g (block_table block)))

-- names are resolved over the catalogue as over the database
pub resolve_denied : (g : Store) (table : List ℕ) (key fetched : List (List ℕ)) (x : Fail)
    → IsRefusedAs (failed ℕ x) (resolve_refusal g.catalogue table key fetched)
    → Gives (failed Resolved x) (resolution (schema_of (database_in g)) table key fetched)
resolve_denied g table key fetched NoMemory h = tt
resolve_denied g table key fetched (Refused why) h =
    ap (λ s. resolution s table key fetched) (schema_is_catalogue g) ∙ ap (λ r. or_refusal r (resolved_in g.catalogue table key fetched)) h

pub resolve_found : (g : Store) (table : List ℕ) (key fetched : List (List ℕ)) (id : TableId) (k f : List ColumnId)
    → resolve_refusal g.catalogue table key fetched ≡ None → table_named g.catalogue table ≡ Some id
    → k ≡ column_ids (columns_of_named g.catalogue table) key → f ≡ column_ids (columns_of_named g.catalogue table) fetched
    → resolution (schema_of (database_in g)) table key fetched ≡ Ok (record { table = id; key = k; fetched = f })
resolve_found g table key fetched id k f none named ks fs =
    ap (λ s. resolution s table key fetched) (schema_is_catalogue g) ∙ ap (λ r. or_refusal r (resolved_in g.catalogue table key fetched)) none
    ∙ ap (λ o. made (unwrap_or o (record { 0 = 0 })) (column_ids (columns_of_named g.catalogue table) key)
    (column_ids (columns_of_named g.catalogue table) fetched)) named
    ∙ ap (λ c. made id c (column_ids (columns_of_named g.catalogue table) fetched)) (sym ks) ∙ ap (λ c. made id k c) (sym fs)
  where
    made : TableId → List ColumnId → List ColumnId → Result Resolved Refusal
    made t c d = Ok (record { table = t; key = c; fetched = d })
