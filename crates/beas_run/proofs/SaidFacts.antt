-- What a statement does to the open queries: it leaves them as they are, or opens one more.
--     KeepsQueries state action              it leaves them, costs nothing where its file can't be loaded, and doesn't report that one was opened
--     OpensQuery explain state k action      it opens a query of this session, which had none
--     SaidIs explain state k action          it does the one or the other
use Rattle.std.proofs.Common.{◌≡◌, ◌⊎◌, inl, inr, refl, length, ℕ, Bool, false, List, Option, None, Some, Result, Ok, Err}
use Rattle.beas_core.specs.declared.plan.Prepared.{Prepared}
use Rattle.beas_core.specs.declared.refusal.Refusal.{Refusal}
use Rattle.beas_core.specs.declared.limits.Limits.{Limits}
use Rattle.beas_core.specs.declared.schema.TableId.{TableId}
use Rattle.catalogue.specs.Database.{Database, rows_at, schema_of}
use Rattle.catalogue.specs.Refusing.{add_table_refusal, admit_refusal, already_broken, drop_access_refusal, insert_refusal, new_access}
use Rattle.catalogue.specs.Schema.{columns_at}
use Rattle.session.specs.declared.loading.LoadOutcome.{LoadOutcome}
use Rattle.session.specs.declared.loading.LoadOutcome.TheVariants.{Content, Failed, TooLong}
use Rattle.session.specs.Announced.{announcement, binding, scan_announcement}
use Rattle.session.specs.Effects.{Action, Does, Effect, Loads, Settings, action_of, build_access_effect, delete_binding, file_rows, limit_or_refusal, load_action, load_effect, load_refusal, load_rows_effect, resolution, sizes_in, table_or_refusal, tuples_binding, unless, with_answer}
use Rattle.session.specs.Grouping.{first_block, grouping_refusal}
use Rattle.specialise.specs.Specialised.{specialised}
use Rattle.sql_text.specs.declared.tree.Statement.{Statement}
use Rattle.sql_text.specs.declared.tree.Statement.TheVariants.{CreateTable, CreateAccess, DropAccess, Load, Insert, Delete, DiscoverGroup, DiscoverPairs, Select, Explain, ScanOk, Grouped, Specialise}
use Rattle.desk_model.specs.OpenQueries.{OpenQuery}
use Rattle.desk_model.specs.Answers.{effect_by}
use Rattle.desk_model.specs.Desks.{DeskAction, AtOnce, ByLoad, State, at_desk, opened_effect, query_of, said_action, statement_action}
use Rattle.beas_run.specs.Pieces.{is_opened}

abbrev pub IsFree : DeskAction → Type 0
IsFree (AtOnce effect) = Unit {0}
IsFree (ByLoad name effect) = (effect Failed).cost ≡ 0

pub record KeepsQueries (state : State) (action : DeskAction) : Type 0 where
  pub queries : (outcome : LoadOutcome) → (effect_by action outcome).state.queries ≡ state.queries
  pub free : IsFree action
  pub report : (outcome : LoadOutcome) → is_opened (effect_by action outcome).report ≡ false

pub record OpensQuery (explain : Bool) (state : State) (k : ℕ) (action : DeskAction) : Type 0 where
  pub idle : query_of k state ≡ None
  pub prepared : Prepared
  pub is : action ≡ AtOnce (opened_effect explain state k (Ok prepared))

abbrev pub SaidIs : Bool → State → ℕ → DeskAction → Type 0
SaidIs explain state k action = KeepsQueries state action ⊎ OpensQuery explain state k action

-- ---- what is done to the database

-- a load that failed costs nothing
abbrev FreeLoads : Action → Type 0
FreeLoads (Does effect) = Unit {0}
FreeLoads (Loads name effect) = (effect Failed).cost ≡ 0

-- no statement reports that it opened a query
abbrev OpensNone : Action → Type 0
OpensNone (Does effect) = is_opened effect.report ≡ false
OpensNone (Loads name effect) = (outcome : LoadOutcome) → is_opened (effect outcome).report ≡ false

desk_keeps : (state : State) (action : Action) → FreeLoads action → OpensNone action → KeepsQueries state (at_desk state action)
desk_keeps state (Does effect) free none = record { queries = λ _. refl; free = tt; report = λ _. none }
desk_keeps state (Loads name effect) free none = record { queries = λ _. refl; free = free; report = none }

none_answered : {A : Type 0} (r : Result A Refusal) (db : Database) (effect : A → Effect) → ((a : A) → is_opened (effect a).report ≡ false)
    → is_opened (with_answer r db effect).report ≡ false
none_answered (Ok a) db effect each = each a
none_answered (Err why) db effect each = refl

none_unless : (why : Option Refusal) (db : Database) (effect : Effect) → is_opened effect.report ≡ false
    → is_opened (unless why db effect).report ≡ false
none_unless None db effect none = none
none_unless (Some why) db effect none = refl

none_loaded : (limits : Limits) (db : Database) (table : Result TableId Refusal) (file : List ℕ) → OpensNone (load_action limits db table file)
none_loaded limits db (Err why) file = refl
none_loaded limits db (Ok id) file = by
  where
    by : (outcome : LoadOutcome) → is_opened (load_effect limits db file id outcome).report ≡ false
    by Failed = refl
    by TooLong = refl
    by (Content bytes) = none_answered (file_rows limits (columns_at (schema_of db) id) bytes) db (λ rows. load_rows_effect limits db id rows) (λ rows.
        none_unless (load_refusal limits db id rows) db _ refl)

opens_none : (s : Settings) (db : Database) (statement : Statement) → OpensNone (action_of s db statement)
opens_none s db (Select tree) = none_answered (announcement s.limits s.budget (schema_of db) tree) db _ (λ prepared. refl)
opens_none s db (CreateTable name columns) = none_unless (add_table_refusal s.limits (schema_of db) name columns) db _ refl
opens_none s db (CreateAccess spec) =
    let access = new_access (schema_of db) spec in
    none_unless (admit_refusal s.limits (schema_of db) spec) db (build_access_effect db access)
    (none_unless (already_broken (rows_at db access.table) access) db _ refl)
opens_none s db (DropAccess name) = none_unless (drop_access_refusal (schema_of db) name) db _ refl
opens_none s db (Load table file) = none_loaded s.limits db (table_or_refusal (schema_of db) table) file
opens_none s db (Insert table tuples) =
    none_answered (table_or_refusal (schema_of db) table) db _ (λ id.
    none_answered (tuples_binding s.limits tuples) db _ (λ rows.
    none_unless (insert_refusal s.limits db id rows) db _ refl))
opens_none s db (Delete table conditions) = none_answered (delete_binding s.limits db table conditions) db _ (λ block. refl)
opens_none s db (DiscoverGroup table key fetched) = none_answered (resolution (schema_of db) table key fetched) db _ (λ r. refl)
opens_none s db (DiscoverPairs table limit) =
    none_answered (table_or_refusal (schema_of db) table) db _ (λ id. none_answered (limit_or_refusal limit) db _ (λ n. refl))
opens_none s db (Explain tree) = none_answered (announcement s.limits s.budget (schema_of db) tree) db _ (λ prepared. refl)
opens_none s db (ScanOk tree) = none_answered (scan_announcement s.limits s.budget (schema_of db) (sizes_in db) tree) db _ (λ plan. refl)
opens_none s db (Grouped items keys inner) =
    none_answered (announcement s.limits s.budget (schema_of db) inner) db _ (λ prepared.
    none_unless (grouping_refusal (schema_of db) (first_block prepared.query) (length keys) items) db _ refl)
opens_none s db (Specialise tree) =
    none_answered (binding s.limits (schema_of db) tree) db _ (λ query.
    none_answered (specialised db.accesses (first_block query)) db _ (λ places. refl))

free_load : (limits : Limits) (db : Database) (table : Result TableId Refusal) (file : List ℕ) → FreeLoads (load_action limits db table file)
free_load limits db (Err why) file = tt
free_load limits db (Ok id) file = refl

module _ (s : Settings) (state : State) (k : ℕ) (idle : query_of k state ≡ None) where
  opened_is : (r : Result Prepared Refusal) → SaidIs s.explain state k (AtOnce (opened_effect s.explain state k r))
  opened_is (Err why) = inl (record { queries = λ _. refl; free = tt; report = λ _. refl })
  opened_is (Ok prepared) = inr (record { idle = idle; prepared = prepared; is = refl })

  keeps : (statement : Statement) → FreeLoads (action_of s state.db statement)
      → SaidIs s.explain state k (at_desk state (action_of s state.db statement))
  keeps statement free = inl (desk_keeps state (action_of s state.db statement) free (opens_none s state.db statement))

  statement_is : (statement : Statement) → SaidIs s.explain state k (statement_action s state k statement)
  statement_is (Select tree) = opened_is (announcement s.limits s.budget (schema_of state.db) tree)
  statement_is (CreateTable name columns) = keeps (CreateTable name columns) tt
  statement_is (CreateAccess spec) = keeps (CreateAccess spec) tt
  statement_is (DropAccess name) = keeps (DropAccess name) tt
  statement_is (Load table file) = keeps (Load table file) (free_load s.limits state.db (table_or_refusal (schema_of state.db) table) file)
  statement_is (Insert table tuples) = keeps (Insert table tuples) tt
  statement_is (Delete table conditions) = keeps (Delete table conditions) tt
  statement_is (DiscoverGroup table key fetched) = keeps (DiscoverGroup table key fetched) tt
  statement_is (DiscoverPairs table limit) = keeps (DiscoverPairs table limit) tt
  statement_is (Explain tree) = keeps (Explain tree) tt
  statement_is (ScanOk tree) = keeps (ScanOk tree) tt
  statement_is (Grouped items keys inner) = keeps (Grouped items keys inner) tt
  statement_is (Specialise tree) = keeps (Specialise tree) tt

-- ---- a statement of a session

said_by : (s : Settings) (state : State) (k : ℕ) (statement : Statement) (o : Option OpenQuery) → query_of k state ≡ o
    → SaidIs s.explain state k (said_action s state k o statement)
said_by s state k statement None idle = statement_is s state k idle statement
said_by s state k statement (Some query) busy = inl (record { queries = λ _. refl; free = tt; report = λ _. refl })

pub said_is : (s : Settings) (state : State) (k : ℕ) (statement : Statement)
    → SaidIs s.explain state k (said_action s state k (query_of k state) statement)
said_is s state k statement = said_by s state k statement (query_of k state) refl
