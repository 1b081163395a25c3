-- What a statement does: its report, how many tuples it reads, and the database afterwards.
--     Settings                         the limits, the budget, and whether a query's plan is shown
--     Effect                           a report, the tuples that are read, and the database afterwards
--     Action                              what a statement does at once, or by what the load of its file gives
--     action_of settings db statement     what the statement does
-- The rules of refusals are those of the catalogue, the binder and the files; here stands which comes first.
use Rattle.std.specs.Prelude.{◌+◌, ◌-◌, if◌then◌else◌, nat_lt, ℕ, Bool, List, [], length, map, slice_index_or, unwrap_or, Option, Some, None, option_map, Result, Ok, Err}
use Rattle.std.specs.Option.{ok_or, option_or}
use Rattle.beas_core.specs.declared.limits.Limits.{Limits}
use Rattle.beas_core.specs.declared.plan.Prepared.{Prepared}
use Rattle.beas_core.specs.declared.query.Block.{Block}
use Rattle.beas_core.specs.declared.query.Place.{Place}
use Rattle.beas_core.specs.declared.refusal.Refusal.{Refusal}
use Rattle.beas_core.specs.declared.refusal.Refusal.TheVariants.{UnknownTable, BadLimit, Unreadable, FileTooLong, TooMany}
use Rattle.beas_core.specs.declared.refusal.Counted.TheVariants.{Rows}
use Rattle.beas_core.specs.declared.schema.Access.{Access}
use Rattle.beas_core.specs.declared.schema.AccessSpec.{AccessSpec}
use Rattle.beas_core.specs.declared.schema.Column.{Column}
use Rattle.beas_core.specs.declared.schema.ColumnId.{ColumnId}
use Rattle.beas_core.specs.declared.schema.TableId.{TableId}
use Rattle.beas_core.specs.Full.{full_of}
use Rattle.beas_core.specs.Groups.{greatest}
use Rattle.beas_core.specs.Queries.{query_reads}
use Rattle.beas_core.specs.Results.{refused_if}
use Rattle.beas_core.specs.Spelling.{limit_in}
use Rattle.beas_core.specs.Types.{Row}
use Rattle.catalogue.specs.Database.{Database, schema_of, rows_at, with_table, with_access, without_access, with_more_rows, with_rows_kept, kept_rows, block_table}
use Rattle.catalogue.specs.Refusing.{add_table_refusal, resolve_refusal, admit_refusal, drop_access_refusal, insert_refusal, already_broken, broken_bound, new_access, columns_of_named, column_ids}
use Rattle.catalogue.specs.Schema.{Schema, accesses_on, table_named, columns_at}
use Rattle.sql_text.specs.declared.tree.Cond.{Cond}
use Rattle.sql_text.specs.declared.tree.Literal.{Literal}
use Rattle.sql_text.specs.declared.tree.Statement.{Statement}
use Rattle.sql_text.specs.declared.tree.ColumnRef.{ColumnRef}
use Rattle.sql_text.specs.declared.tree.GroupItem.{GroupItem}
use Rattle.sql_text.specs.declared.tree.Statement.TheVariants as statement
use Rattle.sql_text.specs.Trees.{Tree}
use Rattle.name_resolution.specs.Binding.{row_refusals, bound_rows, delete_refusals, bound_delete}
use Rattle.csv_load.specs.CsvRows.{fault_of, rows_in}
use Rattle.constraint_miner.specs.Pairs.{pairs_in}
use Rattle.report.specs.declared.reports.Report.{Report}
use Rattle.report.specs.declared.reports.Report.TheVariants.{Done, Changed, Greatest, Pairs, Explained, Answered, Grouped, Specialised, Refused}
use Rattle.partial_plan.specs.declared.plan.ScanPlan.{ScanPlan}
use Rattle.partial_plan.specs.ScanPlans.{scan_plan_reads}
use Rattle.plan_builder.specs.Preparation.{atom_table}
use Rattle.report.specs.Plans.{plan_text, plan_text_over}
use Rattle.partial_plan.specs.Scans.{TableSizes, sizes_of_tables}
use Rattle.specialise.specs.Specialised.{specialised}
use Rattle.session.specs.declared.discovery.Resolved.{Resolved}
use Rattle.session.specs.declared.loading.LoadOutcome.{LoadOutcome}
use Rattle.session.specs.declared.loading.LoadOutcome.TheVariants.{Content, Failed, TooLong}
use Rattle.session.specs.Announced.{announcement, binding, scan_announcement, unless_refused}
use Rattle.session.specs.Grouping.{first_block, grouping_refusal, groups_over, item_name}

pub record Settings : Type 0 where
  pub limits : Limits
  pub budget : Option ℕ
  pub explain : Bool

pub record Effect : Type 0 where
  pub report : Report
  pub cost : ℕ
  pub db : Database

-- a LOAD of a known table waits for what the load of its file gives; every other statement is carried out at once
pub data Action : Type 0 where
  Does : Effect → Action
  Loads : List ℕ → (LoadOutcome → Effect) → Action

-- a refused statement changes nothing
abbrev pub refusal_effect : Database → Refusal → Effect
refusal_effect db why = record { report = Refused why; cost = 0; db = db }

-- the effect, unless there is a refusal
abbrev pub unless : Option Refusal → Database → Effect → Effect
unless None db effect = effect
unless (Some why) db effect = refusal_effect db why

-- what is made of an answer, unless it is a refusal
abbrev pub with_answer : {A : Type 0} → Result A Refusal → Database → (A → Effect) → Effect
with_answer (Ok answer) db effect = effect answer
with_answer (Err why) db effect = refusal_effect db why

-- an answer, unless there is a refusal
abbrev pub or_refusal : {A : Type 0} → Option Refusal → A → Result A Refusal
or_refusal None answer = Ok answer
or_refusal (Some why) answer = Err why

abbrev pub table_or_refusal : Schema → List ℕ → Result TableId Refusal
table_or_refusal schema name = ok_or (table_named schema name) (UnknownTable name)

-- the effect of a statement that reads each row of a table once, refused or not
abbrev pub reading_rows : Database → TableId → Effect → Effect
reading_rows db id effect = record effect { cost = length (rows_at db id) }

-- ---- CREATE TABLE, CREATE ACCESS, DROP ACCESS

abbrev pub create_table_effect : Limits → Database → List ℕ → List Column → Effect
create_table_effect limits db name columns =
    unless (add_table_refusal limits (schema_of db) name columns) db
    (record { report = Done; cost = 0; db = with_table db name columns })

-- past the checks of names and shape each row is read, whether the constraint then holds or not
abbrev pub build_access_effect : Database → Access → Effect
build_access_effect db access =
    reading_rows db access.table
    (unless (already_broken (rows_at db access.table) access) db
    (record { report = Done; cost = 0; db = with_access db access }))

abbrev pub create_access_effect : Limits → Database → AccessSpec → Effect
create_access_effect limits db spec =
    unless (admit_refusal limits (schema_of db) spec) db (build_access_effect db (new_access (schema_of db) spec))

abbrev pub drop_access_effect : Database → List ℕ → Effect
drop_access_effect db name =
    unless (drop_access_refusal (schema_of db) name) db
    (record { report = Done; cost = 0; db = without_access db name })

-- ---- INSERT, LOAD, DELETE

-- rows are added at the end of a table, unless there is a refusal
abbrev pub adding_rows : Option Refusal → Database → TableId → List Row → Effect
adding_rows refusal db id rows =
    unless refusal db (record { report = Changed (length rows); cost = 0; db = with_more_rows db id rows })

abbrev pub add_rows_effect : Limits → Database → TableId → List Row → Effect
add_rows_effect limits db id rows = adding_rows (insert_refusal limits db id rows) db id rows

abbrev pub tuples_binding : Limits → List (List Literal) → Result (List Row) Refusal
tuples_binding limits tuples = unless_refused (row_refusals limits tuples) (bound_rows tuples)

abbrev pub insert_effect : Limits → Database → List ℕ → List (List Literal) → Effect
insert_effect limits db table tuples =
    with_answer (table_or_refusal (schema_of db) table) db (λ id.
    with_answer (tuples_binding limits tuples) db (λ rows.
    add_rows_effect limits db id rows))

-- the rows of a file for a table with these columns
abbrev pub file_rows : Limits → List Column → List ℕ → Result (List Row) Refusal
file_rows limits columns bytes = or_refusal (fault_of limits.text columns bytes) (rows_in limits.text columns bytes)

-- why the rows of a file aren't added, if they aren't: they are too many, or one breaks a bound. They have their table's width and kinds
abbrev pub load_refusal : Limits → Database → TableId → List Row → Option Refusal
load_refusal limits db id rows =
    option_or (refused_if (nat_lt limits.rows (length (rows_at db id) + length rows)) (TooMany Rows limits.rows))
    (broken_bound (accesses_on db.accesses id) (rows_at db id) rows)

abbrev pub load_rows_effect : Limits → Database → TableId → List Row → Effect
load_rows_effect limits db id rows = adding_rows (load_refusal limits db id rows) db id rows

abbrev pub load_effect : Limits → Database → List ℕ → TableId → LoadOutcome → Effect
load_effect limits db file id Failed = refusal_effect db (Unreadable file)
load_effect limits db file id TooLong = refusal_effect db (FileTooLong limits.file)
load_effect limits db file id (Content bytes) =
    with_answer (file_rows limits (columns_at (schema_of db) id) bytes) db (λ rows. load_rows_effect limits db id rows)

abbrev pub load_action : Limits → Database → Result TableId Refusal → List ℕ → Action
load_action limits db (Err why) file = Does (refusal_effect db why)
load_action limits db (Ok id) file = Loads file (load_effect limits db file id)

-- the report tells how many rows are gone
abbrev pub delete_rows_effect : Database → Block → Effect
delete_rows_effect db block =
    let rows = rows_at db (block_table block) in
    reading_rows db (block_table block)
    (record { report = Changed (length rows - length (kept_rows block rows)); cost = 0; db = with_rows_kept block db })

abbrev pub delete_binding : Limits → Database → List ℕ → List Cond → Result Block Refusal
delete_binding limits db table conditions =
    unless_refused (delete_refusals limits (schema_of db) table conditions)
    (bound_delete (schema_of db) table conditions)

abbrev pub delete_effect : Limits → Database → List ℕ → List Cond → Effect
delete_effect limits db table conditions =
    with_answer (delete_binding limits db table conditions) db (delete_rows_effect db)

-- ---- DISCOVER

abbrev pub name_at : List Column → ColumnId → List ℕ
name_at columns column = slice_index_or (map (λ c. c.name) columns) column.0 []

abbrev pub named_pairs : List Column → List (ColumnId × ColumnId × ℕ) → List (List ℕ × List ℕ × ℕ)
named_pairs columns pairs = map (λ p. (name_at columns p.0, name_at columns p.1, p.2)) pairs

abbrev pub greatest_effect : Database → TableId → List ColumnId → List ColumnId → Effect
greatest_effect db id key fetched =
    reading_rows db id (record { report = Greatest (greatest (rows_at db id) key fetched); cost = 0; db = db })

-- the table and the columns that names stand for
abbrev pub resolved_in : Schema → List ℕ → List (List ℕ) → List (List ℕ) → Resolved
resolved_in schema table key fetched = record {
  table = unwrap_or (table_named schema table) (record { 0 = 0 });
  key = column_ids (columns_of_named schema table) key;
  fetched = column_ids (columns_of_named schema table) fetched;
}

abbrev pub resolution : Schema → List ℕ → List (List ℕ) → List (List ℕ) → Result Resolved Refusal
resolution schema table key fetched =
    or_refusal (resolve_refusal schema table key fetched) (resolved_in schema table key fetched)

abbrev pub discover_group_effect : Database → List ℕ → List (List ℕ) → List (List ℕ) → Effect
discover_group_effect db table key fetched =
    with_answer (resolution (schema_of db) table key fetched) db (λ r. greatest_effect db r.table r.key r.fetched)

abbrev pub limit_or_refusal : List ℕ → Result ℕ Refusal
limit_or_refusal digits = ok_or (limit_in digits) (BadLimit digits)

abbrev pub pairs_effect : Database → TableId → ℕ → Effect
pairs_effect db id limit =
    let columns = columns_at (schema_of db) id in
    reading_rows db id
    (record {
      report = Pairs (named_pairs columns (pairs_in (rows_at db id) (length columns) limit));
      cost = 0;
      db = db;
    })

abbrev pub discover_pairs_effect : Database → List ℕ → List ℕ → Effect
discover_pairs_effect db table digits =
    with_answer (table_or_refusal (schema_of db) table) db (λ id.
    with_answer (limit_or_refusal digits) db (λ limit.
    pairs_effect db id limit))

-- ---- queries and EXPLAIN

abbrev pub reads_in : Database → Prepared → ℕ
reads_in db prepared = query_reads (rows_at db) db.accesses prepared.guided prepared.derivations prepared.query

abbrev pub plan_shown : Bool → Database → Prepared → List ℕ
plan_shown explain db prepared = if explain then plan_text (schema_of db) prepared else []

abbrev pub answer_effect : Bool → Database → Prepared → Effect
answer_effect explain db prepared = record {
  report =
      Answered prepared.bound (plan_shown explain db prepared) prepared.header
      (full_of (rows_at db) prepared.query) (reads_in db prepared);
  cost = reads_in db prepared;
  db = db;
}

abbrev pub select_effect : Settings → Database → Tree → Effect
select_effect s db tree =
    with_answer (announcement s.limits s.budget (schema_of db) tree) db (answer_effect s.explain db)

abbrev pub explain_effect : Limits → Option ℕ → Database → Tree → Effect
explain_effect limits budget db tree =
    with_answer (announcement limits budget (schema_of db) tree) db (λ prepared.
    record { report = Explained prepared.bound (plan_text (schema_of db) prepared); cost = 0; db = db })

-- ---- SCAN OK

abbrev pub sizes_in : Database → TableSizes
sizes_in db = sizes_of_tables (map (λ t. t.rows) db.tables)

abbrev pub scans_shown : Bool → Database → ScanPlan → List ℕ
scans_shown explain db plan = if explain then plan_text_over (schema_of db) plan.scans plan.prepared else []

abbrev pub scan_reads_in : Database → ScanPlan → ℕ
scan_reads_in db plan = scan_plan_reads (rows_at db) db.accesses plan

abbrev pub scan_answer_effect : Bool → Database → ScanPlan → Effect
scan_answer_effect explain db plan = record {
  report =
      Answered plan.bound (scans_shown explain db plan) plan.prepared.header
      (full_of (rows_at db) plan.prepared.query) (scan_reads_in db plan);
  cost = scan_reads_in db plan;
  db = db;
}

abbrev pub scan_effect : Settings → Database → Tree → Effect
scan_effect s db tree =
    with_answer (scan_announcement s.limits s.budget (schema_of db) (sizes_in db) tree) db (scan_answer_effect s.explain db)

-- ---- grouped statements and SPECIALISE

abbrev pub groups_effect : Bool → Database → ℕ → List GroupItem → Prepared → Effect
groups_effect explain db keys items prepared = record {
  report =
      Grouped prepared.bound (plan_shown explain db prepared) (map item_name items)
      (groups_over keys items (full_of (rows_at db) prepared.query)) (reads_in db prepared);
  cost = reads_in db prepared;
  db = db;
}

-- the keys and the columns of the items are a query; its refusals come first
abbrev pub grouped_effect : Settings → Database → List GroupItem → List ColumnRef → Tree → Effect
grouped_effect s db items keys inner =
    with_answer (announcement s.limits s.budget (schema_of db) inner) db (λ prepared.
    unless (grouping_refusal (schema_of db) (first_block prepared.query) (length keys) items) db
    (groups_effect s.explain db (length keys) items prepared))

-- atoms are numbered from 1 in a report
abbrev pub named_place : Schema → Block → Place → ℕ × List ℕ
named_place schema block place = (place.atom + 1, name_at (columns_at schema (atom_table block place.atom)) place.column)

-- the first set of columns that, given as constants, make the block covered
abbrev pub specialise_effect : Limits → Database → Tree → Effect
specialise_effect limits db tree =
    with_answer (binding limits (schema_of db) tree) db (λ query.
    with_answer (specialised db.accesses (first_block query)) db (λ places.
    record {
      report = Specialised (option_map (map (named_place (schema_of db) (first_block query))) places);
      cost = 0;
      db = db;
    }))

-- ---- each statement

abbrev pub action_of : Settings → Database → Statement → Action
action_of s db (statement.CreateTable name columns) = Does (create_table_effect s.limits db name columns)
action_of s db (statement.CreateAccess spec) = Does (create_access_effect s.limits db spec)
action_of s db (statement.DropAccess name) = Does (drop_access_effect db name)
action_of s db (statement.Load table file) = load_action s.limits db (table_or_refusal (schema_of db) table) file
action_of s db (statement.Insert table tuples) = Does (insert_effect s.limits db table tuples)
action_of s db (statement.Delete table conditions) = Does (delete_effect s.limits db table conditions)
action_of s db (statement.DiscoverGroup table key fetched) = Does (discover_group_effect db table key fetched)
action_of s db (statement.DiscoverPairs table limit) = Does (discover_pairs_effect db table limit)
action_of s db (statement.Select tree) = Does (select_effect s db tree)
action_of s db (statement.Explain tree) = Does (explain_effect s.limits s.budget db tree)
action_of s db (statement.ScanOk tree) = Does (scan_effect s db tree)
action_of s db (statement.Grouped items keys inner) = Does (grouped_effect s db items keys inner)
action_of s db (statement.Specialise tree) = Does (specialise_effect s.limits db tree)
