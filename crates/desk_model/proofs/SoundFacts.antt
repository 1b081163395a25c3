-- After a statement the catalogue is sound where it was before.
use Rattle.std.proofs.Common.{◌≡◌, ◌++◌, ℕ, List, [], ◌∷◌, length, Option, Some, None, Result, Ok, Err, refl, sym, subst}
use Rattle.std.proofs.lemmas.List.{map-append}
use Rattle.std.proofs.Math.Seq.{map-set_same}
use Rattle.beas_core.specs.declared.plan.Prepared.{Prepared}
use Rattle.beas_core.specs.declared.refusal.Refusal.{Refusal}
use Rattle.beas_core.specs.declared.schema.TableId.{TableId}
use Rattle.beas_core.specs.Types.{Row}
use Rattle.catalogue.specs.Database.{Database, block_table, empty_table, kept_rows, rows_at, schema_of, table_schema, with_rows}
use Rattle.catalogue.specs.Refusing.{add_table_refusal, admit_refusal, already_broken, drop_access_refusal, insert_refusal, new_access}
use Rattle.catalogue.specs.Schema.{Schema, SchemaIsSound, columns_at}
use Rattle.catalogue.specs.declared.tables.TableSchema.{TableSchema}
use Rattle.catalogue.proofs.Keeping.{sound_with_access, sound_with_table, sound_without}
use Rattle.catalogue.proofs.MayMake.{may_make_access, may_make_table}
use Rattle.sql_text.specs.declared.tree.Statement.{Statement}
use Rattle.sql_text.specs.declared.tree.Statement.TheVariants.{CreateTable, CreateAccess, DropAccess, Load, Insert, Delete, DiscoverGroup, DiscoverPairs, Select, Explain, ScanOk, Grouped, Specialise}
use Rattle.session.specs.declared.loading.LoadOutcome.{LoadOutcome}
use Rattle.session.specs.declared.loading.LoadOutcome.TheVariants.{Content, Failed, TooLong}
use Rattle.session.specs.Announced.{announcement, binding, scan_announcement}
use Rattle.session.specs.Grouping.{first_block, grouping_refusal}
use Rattle.session.specs.Effects.{Effect, Settings, action_of, add_rows_effect, adding_rows, answer_effect, build_access_effect, delete_binding, delete_rows_effect, file_rows, greatest_effect, groups_effect, limit_or_refusal, load_action, load_effect, load_refusal, load_rows_effect, pairs_effect, resolution, scan_answer_effect, sizes_in, table_or_refusal, tuples_binding, unless, with_answer}
use Rattle.session.specs.Statements.{StatementIsWellFormed}
use Rattle.session.specs.Turns.{turn_of}
use Rattle.specialise.specs.Specialised.{specialised}

module _ (db : Database) (sound : SchemaIsSound (schema_of db)) where
  pub record StaysSound (effect : Effect) : Type 0 where
    pub stays : SchemaIsSound (schema_of effect.db)

  unchanged : (effect : Effect) → effect.db ≡ db → StaysSound effect
  unchanged effect same = record { stays = subst (λ (d : Database). SchemaIsSound (schema_of d)) (sym same) sound }

  -- a catalogue knows no rows
  replaced : (effect : Effect) (id : TableId) (rows : List Row) → effect.db ≡ with_rows db id rows → StaysSound effect
  replaced effect id rows is = record {
    stays = subst (λ (d : Database). SchemaIsSound (schema_of d)) (sym is)
        (subst (λ (tables : List TableSchema). let schema : Schema = record (schema_of db) { tables = tables } in SchemaIsSound schema)
        (sym (map-set_same table_schema db.tables id.0 _ empty_table refl)) sound);
  }

  unless-sound : (o : Option Refusal) (effect : Effect) → (o ≡ None → StaysSound effect) → StaysSound (unless o db effect)
  unless-sound None effect h = h refl
  unless-sound (Some why) effect h = unchanged _ refl

  answer-sound : {A : Type 0} (r : Result A Refusal) (effect : A → Effect) → ((a : A) → StaysSound (effect a)) → StaysSound (with_answer r db effect)
  answer-sound (Ok a) effect h = h a
  answer-sound (Err why) effect h = unchanged _ refl

  adding-sound : (refusal : Option Refusal) (id : TableId) (rows : List Row) → StaysSound (adding_rows refusal db id rows)
  adding-sound refusal id rows = unless-sound refusal _ (λ none. replaced _ id (rows_at db id ++ rows) refl)

  with_cost : (effect : Effect) (cost : ℕ) → StaysSound effect → StaysSound (record effect { cost = cost })
  with_cost effect cost h = record { stays = h.stays }

  content-sound : (s : Settings) (file : List ℕ) (id : TableId) (outcome : LoadOutcome) → StaysSound (load_effect s.limits db file id outcome)
  content-sound s file id Failed = unchanged _ refl
  content-sound s file id TooLong = unchanged _ refl
  content-sound s file id (Content bytes) =
      answer-sound (file_rows s.limits (columns_at (schema_of db) id) bytes) (λ rows. load_rows_effect s.limits db id rows)
      (λ rows. adding-sound (load_refusal s.limits db id rows) id rows)

  load-sound : (s : Settings) (file : List ℕ) (outcome : LoadOutcome) (r : Result TableId Refusal)
      → StaysSound (turn_of (load_action s.limits db r file) outcome).effect
  load-sound s file outcome (Err why) = unchanged _ refl
  load-sound s file outcome (Ok id) = content-sound s file id outcome

  pub stays_sound : (s : Settings) (statement : Statement) (outcome : LoadOutcome) → StatementIsWellFormed statement
      → StaysSound (turn_of (action_of s db statement) outcome).effect
  stays_sound s (CreateTable name columns) outcome formed =
      let table : TableSchema = record { name = name; columns = columns } in
      unless-sound (add_table_refusal s.limits (schema_of db) name columns) _ (λ none. record {
        stays = subst (λ (tables : List TableSchema). let schema : Schema = record (schema_of db) { tables = tables } in SchemaIsSound schema)
            (sym (map-append table_schema db.tables (record { name = name; columns = columns; rows = [] } ∷ [])))
            (sound_with_table (schema_of db) table
            (may_make_table s.limits (schema_of db) name columns none formed s.limits.tables_in_range.1 s.limits.columns_in_range.1) sound);
      })
  stays_sound s (CreateAccess spec) outcome formed =
      let access = new_access (schema_of db) spec in
      unless-sound (admit_refusal s.limits (schema_of db) spec) (build_access_effect db access)
      (λ admitted. with_cost _ (length (rows_at db access.table)) (unless-sound (already_broken (rows_at db access.table) access) _ (λ holds. record {
        stays = sound_with_access (schema_of db) access
            (may_make_access s.limits (schema_of db) spec admitted formed s.limits.constraints_in_range.1) sound;
      })))
  stays_sound s (DropAccess name) outcome formed =
      unless-sound (drop_access_refusal (schema_of db) name) _ (λ none. record { stays = sound_without (schema_of db) name sound })
  stays_sound s (Load table file) outcome formed = load-sound s file outcome (table_or_refusal (schema_of db) table)
  stays_sound s (Insert table tuples) outcome formed =
      answer-sound (table_or_refusal (schema_of db) table)
      (λ id. with_answer (tuples_binding s.limits tuples) db (λ rows. add_rows_effect s.limits db id rows))
      (λ id. answer-sound (tuples_binding s.limits tuples) (λ rows. add_rows_effect s.limits db id rows)
      (λ rows. adding-sound (insert_refusal s.limits db id rows) id rows))
  stays_sound s (Delete table conditions) outcome formed =
      answer-sound (delete_binding s.limits db table conditions) (delete_rows_effect db)
      (λ block. replaced _ (block_table block) (kept_rows block (rows_at db (block_table block))) refl)
  stays_sound s (DiscoverGroup table key fetched) outcome formed =
      answer-sound (resolution (schema_of db) table key fetched) (λ r. greatest_effect db r.table r.key r.fetched) (λ r. unchanged _ refl)
  stays_sound s (DiscoverPairs table limit) outcome formed =
      answer-sound (table_or_refusal (schema_of db) table) (λ id. with_answer (limit_or_refusal limit) db (λ n. pairs_effect db id n))
      (λ id. answer-sound (limit_or_refusal limit) (λ n. pairs_effect db id n) (λ n. unchanged _ refl))
  stays_sound s (Select tree) outcome formed =
      answer-sound (announcement s.limits s.budget (schema_of db) tree) (answer_effect s.explain db) (λ prepared. unchanged _ refl)
  stays_sound s (Explain tree) outcome formed =
      answer-sound (announcement s.limits s.budget (schema_of db) tree) _ (λ prepared. unchanged _ refl)
  stays_sound s (ScanOk tree) outcome formed =
      answer-sound (scan_announcement s.limits s.budget (schema_of db) (sizes_in db) tree) (scan_answer_effect s.explain db) (λ plan. unchanged _ refl)
  stays_sound s (Grouped items keys inner) outcome formed =
      let groups = groups_effect s.explain db (length keys) items in
      let refusal : Prepared → Option Refusal = λ prepared. grouping_refusal (schema_of db) (first_block prepared.query) (length keys) items in
      answer-sound (announcement s.limits s.budget (schema_of db) inner) (λ prepared. unless (refusal prepared) db (groups prepared))
      (λ prepared. unless-sound (refusal prepared) (groups prepared) (λ none. unchanged (groups prepared) refl))
  stays_sound s (Specialise tree) outcome formed =
      answer-sound (binding s.limits (schema_of db) tree) _
      (λ query. answer-sound (specialised db.accesses (first_block query)) _ (λ places. unchanged _ refl))
