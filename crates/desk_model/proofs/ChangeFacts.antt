-- A statement leaves each table as it was that it doesn't change.
use Rattle.std.proofs.Common.{◌≡◌, ◌==◌, ◌++◌, ◌∙◌, ℕ, true, false, List, [], ◌∷◌, length, Option, Some, None, Result, Ok, Err, refl, ap, sym, subst}
use Rattle.std.specs.Prelude.{◌≢◌, ◌&&◌, unwrap_or}
use Rattle.std.specs.List.{list_any}
use Rattle.std.specs.Option.{is_none, ok_or, option_map_or, option_to_list}
use Rattle.std.proofs.lemmas.Bool.{eq-eqb}
use Rattle.beas_core.specs.declared.limits.Limits.{Limits}
use Rattle.beas_core.specs.declared.query.Block.{Block}
use Rattle.beas_core.specs.declared.refusal.Refusal.{Refusal}
use Rattle.beas_core.specs.declared.refusal.Refusal.TheVariants.{UnknownTable}
use Rattle.beas_core.specs.declared.schema.Access.{Access}
use Rattle.beas_core.specs.declared.schema.TableId.{TableId}
use Rattle.beas_core.specs.declared.plan.Prepared.{Prepared}
use Rattle.beas_core.specs.Results.{refused_if}
use Rattle.beas_core.specs.Shapes.{EachIdOnce}
use Rattle.beas_core.specs.Types.{Row}
use Rattle.beas_core.proofs.Sets.{Has-from_contains}
use Rattle.beas_core.proofs.MemberTests.{and_both, any_by}
use Rattle.catalogue.specs.Database.{Database, block_table, kept_rows, rows_at, schema_of}
use Rattle.catalogue.specs.Refusing.{add_table_refusal, admit_refusal, already_broken, drop_access_refusal, insert_refusal, new_access}
use Rattle.catalogue.specs.Schema.{access_has_name, columns_at, table_named}
use Rattle.sql_text.specs.declared.tree.Cond.{Cond}
use Rattle.sql_text.specs.declared.tree.Literal.{Literal}
use Rattle.sql_text.specs.declared.tree.Statement.{Statement}
use Rattle.sql_text.specs.declared.tree.Statement.TheVariants.{CreateTable, CreateAccess, DropAccess, Load, Insert, Delete, DiscoverGroup, DiscoverPairs, Select, Explain, ScanOk, Grouped, Specialise}
use Rattle.name_resolution.specs.Binding.{bound_delete, delete_refusals}
use Rattle.name_resolution.specs.Refusing.{table_refusals}
use Rattle.name_resolution.specs.LookedUp.{atom_of, bound_block, looked_up}
use Rattle.session.specs.declared.loading.LoadOutcome.{LoadOutcome}
use Rattle.session.specs.declared.loading.LoadOutcome.TheVariants.{Content, Failed, TooLong}
use Rattle.specialise.specs.Specialised.{specialised}
use Rattle.session.specs.Announced.{announcement, binding, scan_announcement, unless_refused}
use Rattle.session.specs.Grouping.{first_block, grouping_refusal}
use Rattle.session.specs.Effects.{Effect, Settings, action_of, add_rows_effect, adding_rows, build_access_effect, delete_binding, delete_rows_effect, answer_effect, file_rows, greatest_effect, groups_effect, limit_or_refusal, load_action, load_effect, load_refusal, load_rows_effect, pairs_effect, resolution, scan_answer_effect, sizes_in, table_or_refusal, tuples_binding, unless, with_answer}
use Rattle.session.specs.Turns.{turn_of}
use Rattle.desk_model.specs.Frames.{IsUntouched, NewAccess, ReplacedRows, NewTable, DroppedAccess, SameOn, Update, updated}
use Rattle.desk_model.proofs.UpdateFacts.{untouched_stays}
use Rattle.desk_model.specs.Changes.{changes, is_named}

module _ (db : Database) (t : TableId) (once : EachIdOnce db.accesses) where
  -- the table is as it was after this
  pub record Keeps (effect : Effect) : Type 0 where
    pub same : SameOn db.accesses effect.db.accesses (rows_at db) (rows_at effect.db) t

  unchanged : (effect : Effect) → effect.db ≡ db → Keeps effect
  unchanged effect same = record {
    same = subst (λ (d : Database). SameOn db.accesses d.accesses (rows_at db) (rows_at d) t) (sym same)
        (record { rows = refl; constraints = λ id live on. (live, refl) });
  }

  changed : (effect : Effect) (update : Update) → effect.db ≡ updated db update → IsUntouched db update t → Keeps effect
  changed effect update is free = record {
    same = subst (λ (d : Database). SameOn db.accesses d.accesses (rows_at db) (rows_at d) t) (sym is) (untouched_stays db update t once free);
  }

  unless-keeps : (o : Option Refusal) (effect : Effect) → Keeps effect → Keeps (unless o db effect)
  unless-keeps None effect h = h
  unless-keeps (Some why) effect h = unchanged _ refl

  answer-keeps : {A : Type 0} (r : Result A Refusal) (effect : A → Effect) → ((a : A) → r ≡ Ok a → Keeps (effect a)) → Keeps (with_answer r db effect)
  answer-keeps (Ok a) effect h = h a refl
  answer-keeps (Err why) effect h = unchanged _ refl

  -- rows are added to another table
  adding-keeps : (refusal : Option Refusal) (id : TableId) (rows : List Row) → id.0 ≢ t.0 → Keeps (adding_rows refusal db id rows)
  adding-keeps refusal id rows other = unless-keeps refusal _ (changed _ (ReplacedRows id (rows_at db id ++ rows)) refl other)

  -- a table that isn't named so
  other_table : (name : List ℕ) (o : Option TableId) → option_map_or (λ (u : TableId). u.0 == t.0) o false ≡ false → (id : TableId)
      → ok_or o (UnknownTable name) ≡ Ok id → id.0 ≢ t.0
  other_table name None none id e = cc
  other_table name (Some u) none id e = λ same.
      let it : u ≡ id = cc in
      let there : (u.0 == t.0) ≡ true = eq-eqb u.0 t.0 (ap (λ (x : TableId). x.0) it ∙ same) in
      let no : true ≡ false = sym there ∙ none in cc

  insert-keeps : (limits : Limits) (table : List ℕ) (tuples : List (List Literal)) → is_named (schema_of db) table t ≡ false
      → Keeps (with_answer (table_or_refusal (schema_of db) table) db (λ id.
      with_answer (tuples_binding limits tuples) db (λ rows. add_rows_effect limits db id rows)))
  insert-keeps limits table tuples none =
      answer-keeps (table_or_refusal (schema_of db) table) (λ id. with_answer (tuples_binding limits tuples) db (λ rows. add_rows_effect limits db id rows))
      (λ id e. answer-keeps (tuples_binding limits tuples) (λ rows. add_rows_effect limits db id rows)
      (λ rows f. adding-keeps (insert_refusal limits db id rows) id rows (other_table table (table_named (schema_of db) table) none id e)))

  content-keeps : (limits : Limits) (file : List ℕ) (id : TableId) → id.0 ≢ t.0 → (outcome : LoadOutcome) → Keeps (load_effect limits db file id outcome)
  content-keeps limits file id other Failed = unchanged _ refl
  content-keeps limits file id other TooLong = unchanged _ refl
  content-keeps limits file id other (Content bytes) =
      answer-keeps (file_rows limits (columns_at (schema_of db) id) bytes) (λ rows. load_rows_effect limits db id rows)
      (λ rows f. adding-keeps (load_refusal limits db id rows) id rows other)

  load-keeps : (s : Settings) (table file : List ℕ) (outcome : LoadOutcome) → is_named (schema_of db) table t ≡ false
      → Keeps (turn_of (action_of s db (Load table file)) outcome).effect
  load-keeps s table file outcome none = by (table_or_refusal (schema_of db) table) refl
    where
      by : (r : Result TableId Refusal) → table_or_refusal (schema_of db) table ≡ r
          → Keeps (turn_of (load_action s.limits db r file) outcome).effect
      by (Err why) e = unchanged _ refl
      by (Ok id) e = content-keeps s.limits file id (other_table table (table_named (schema_of db) table) none id e) outcome

  front_none : {A : Type 0} (xs ys : List A) → xs ++ ys ≡ [] → xs ≡ []
  front_none [] ys h = refl
  front_none (x ∷ xs) ys h = cc

  some_refusal : (why : Refusal) → why ∷ [] ≡ [] → ⊥
  some_refusal why e = cc

  -- a block that is bound is over the table that was named
  bound_there : (limits : Limits) (table : List ℕ) (conditions : List Cond) (block : Block) → delete_binding limits db table conditions ≡ Ok block
      → ok_or (table_named (schema_of db) table) (UnknownTable table) ≡ Ok (block_table block)
  unfolding delete_refusals table_refusals bound_delete bound_block looked_up atom_of
  bound_there limits table conditions block e =
      by (delete_refusals limits (schema_of db) table conditions) refl e (table_named (schema_of db) table) refl
    where
      by : (rs : List Refusal) → delete_refusals limits (schema_of db) table conditions ≡ rs
          → unless_refused rs (bound_delete (schema_of db) table conditions) ≡ Ok block
          → (o : Option TableId) → table_named (schema_of db) table ≡ o → ok_or o (UnknownTable table) ≡ Ok (block_table block)
      by (why ∷ more) h g o named = cc
      by [] h g (Some u) named =
          let it : bound_delete (schema_of db) table conditions ≡ block = cc in
          let there : block_table (bound_delete (schema_of db) table conditions) ≡ u = ap (λ x. unwrap_or x (record { 0 = 0 })) named in
          ap (λ id. Ok id) (sym there ∙ ap block_table it)
      by [] h g None named =
          let known = front_none (table_refusals (schema_of db) table) _ h in
          let unknown : table_refusals (schema_of db) table ≡ UnknownTable table ∷ [] =
          ap (λ x. option_to_list (refused_if (is_none x) (UnknownTable table))) named in
          absurd (some_refusal (UnknownTable table) (sym unknown ∙ known))

  delete-keeps : (limits : Limits) (table : List ℕ) (conditions : List Cond) → is_named (schema_of db) table t ≡ false
      → Keeps (with_answer (delete_binding limits db table conditions) db (delete_rows_effect db))
  delete-keeps limits table conditions none =
      answer-keeps (delete_binding limits db table conditions) (delete_rows_effect db) (λ block e.
      let found = bound_there limits table conditions block e in
      changed _ (ReplacedRows (block_table block) (kept_rows block (rows_at db (block_table block)))) refl
      (other_table table (table_named (schema_of db) table) none (block_table block) found))

  drop-keeps : (refusal : Option Refusal) (name : List ℕ) (effect : Effect) → effect.db ≡ updated db (DroppedAccess name)
      → list_any (λ a. access_has_name name a && (a.table.0 == t.0)) db.accesses ≡ false → Keeps (unless refusal db effect)
  drop-keeps refusal name effect is none = unless-keeps refusal effect (changed effect (DroppedAccess name) is (λ a m named same.
      let there = any_by (λ (x : Access). access_has_name name x && (x.table.0 == t.0)) db.accesses a (Has-from_contains db.accesses a m)
      (and_both (access_has_name name a) (a.table.0 == t.0) named (eq-eqb a.table.0 t.0 same)) in
      let no : true ≡ false = sym there ∙ none in cc))

  with_cost : (effect : Effect) (cost : ℕ) → Keeps effect → Keeps (record effect { cost = cost })
  with_cost effect cost h = record { same = h.same }

  pub keeps : (s : Settings) (statement : Statement) (outcome : LoadOutcome) → changes (schema_of db) statement t ≡ false
      → Keeps (turn_of (action_of s db statement) outcome).effect
  keeps s (CreateTable name columns) outcome none =
      unless-keeps (add_table_refusal s.limits (schema_of db) name columns) _ (changed _ (NewTable name columns) refl tt)
  keeps s (CreateAccess spec) outcome none =
      let access = new_access (schema_of db) spec in
      unless-keeps (admit_refusal s.limits (schema_of db) spec) (build_access_effect db access)
      (with_cost _ (length (rows_at db access.table)) (unless-keeps (already_broken (rows_at db access.table) access) _ (changed _ (NewAccess access) refl tt)))
  keeps s (DropAccess name) outcome none = drop-keeps (drop_access_refusal (schema_of db) name) name _ refl none
  keeps s (Load table file) outcome none = load-keeps s table file outcome none
  keeps s (Insert table tuples) outcome none = insert-keeps s.limits table tuples none
  keeps s (Delete table conditions) outcome none = delete-keeps s.limits table conditions none
  keeps s (DiscoverGroup table key fetched) outcome none =
      answer-keeps (resolution (schema_of db) table key fetched) (λ r. greatest_effect db r.table r.key r.fetched) (λ r e. unchanged _ refl)
  keeps s (DiscoverPairs table limit) outcome none =
      answer-keeps (table_or_refusal (schema_of db) table) (λ id. with_answer (limit_or_refusal limit) db (λ n. pairs_effect db id n))
      (λ id e. answer-keeps (limit_or_refusal limit) (λ n. pairs_effect db id n) (λ n f. unchanged _ refl))
  keeps s (Select tree) outcome none =
      answer-keeps (announcement s.limits s.budget (schema_of db) tree) (answer_effect s.explain db) (λ prepared e. unchanged _ refl)
  keeps s (Explain tree) outcome none =
      answer-keeps (announcement s.limits s.budget (schema_of db) tree) _ (λ prepared e. unchanged _ refl)
  keeps s (ScanOk tree) outcome none =
      answer-keeps (scan_announcement s.limits s.budget (schema_of db) (sizes_in db) tree) (scan_answer_effect s.explain db) (λ plan e. unchanged _ refl)
  keeps s (Grouped items keys inner) outcome none =
      let groups = groups_effect s.explain db (length keys) items in
      let refusal : Prepared → Option Refusal = λ prepared. grouping_refusal (schema_of db) (first_block prepared.query) (length keys) items in
      answer-keeps (announcement s.limits s.budget (schema_of db) inner) (λ prepared. unless (refusal prepared) db (groups prepared))
      (λ prepared e. unless-keeps (refusal prepared) (groups prepared) (unchanged (groups prepared) refl))
  keeps s (Specialise tree) outcome none =
      answer-keeps (binding s.limits (schema_of db) tree) _ (λ query e. answer-keeps (specialised db.accesses (first_block query)) _ (λ places f. unchanged _ refl))
