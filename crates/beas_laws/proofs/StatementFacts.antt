-- The report of a statement names a file as unreadable where its load failed, and else none.
use Rattle.std.proofs.Common.{◌≡◌, ℕ, List, Option, Some, None, Result, Ok, Err, length, nat_le, refl}
use Rattle.std.specs.Prelude.{IfErr, IfSome}
use Rattle.beas_core.specs.declared.limits.Limits.{Limits}
use Rattle.beas_core.specs.declared.plan.Prepared.{Prepared}
use Rattle.beas_core.specs.declared.refusal.Counted.TheVariants.{Rows}
use Rattle.beas_core.specs.declared.refusal.Refusal.{Refusal}
use Rattle.beas_core.specs.declared.refusal.Refusal.TheVariants.{BadLimit, OverBudget, TooMany, UnknownTable}
use Rattle.beas_core.specs.declared.schema.AccessSpec.{AccessSpec}
use Rattle.beas_core.specs.declared.schema.Column.{Column}
use Rattle.beas_core.specs.declared.schema.TableId.{TableId}
use Rattle.beas_core.specs.Spelling.{limit_in}
use Rattle.beas_core.specs.Types.{Row}
use Rattle.name_resolution.specs.Binding.{bound_delete, bound_query, bound_rows, delete_refusals, refusals, row_refusals}
use Rattle.catalogue.specs.Database.{Database, rows_at, schema_of}
use Rattle.catalogue.specs.Refusing.{new_access, resolve_refusal}
use Rattle.catalogue.specs.Schema.{Schema, accesses_on, columns_at, table_named}
use Rattle.csv_load.specs.CsvRows.{fault_of, rows_in}
use Rattle.partial_plan.specs.declared.plan.ScanPlan.{ScanPlan}
use Rattle.partial_plan.specs.ScanPlans.{scan_preparation}
use Rattle.plan_builder.specs.Preparation.{preparation}
use Rattle.partial_plan.specs.Scans.{TableSizes}
use Rattle.session.specs.declared.loading.LoadOutcome.{LoadOutcome}
use Rattle.session.specs.declared.loading.LoadOutcome.TheVariants.{Content, Failed, TooLong}
use Rattle.session.specs.Announced.{announcement, binding, scan_announcement, scans_within_budget, within_budget}
use Rattle.session.specs.Effects.{Effect, Settings, action_of, build_access_effect, create_access_effect, create_table_effect, delete_binding, delete_effect, delete_rows_effect, discover_group_effect, discover_pairs_effect, drop_access_effect, explain_effect, file_rows, grouped_effect, insert_effect, limit_or_refusal, load_action, load_effect, load_refusal, load_rows_effect, resolution, resolved_in, scan_effect, select_effect, specialise_effect, table_or_refusal, tuples_binding, unless, with_answer}
use Rattle.session.specs.Grouping.{first_block}
use Rattle.session.specs.Turns.{turn_of}
use Rattle.specialise.specs.Specialised.{specialised}
use Rattle.sql_text.specs.declared.tree.ColumnRef.{ColumnRef}
use Rattle.sql_text.specs.declared.tree.Cond.{Cond}
use Rattle.sql_text.specs.declared.tree.GroupItem.{GroupItem}
use Rattle.sql_text.specs.declared.tree.Literal.{Literal}
use Rattle.sql_text.specs.declared.tree.Statement.{Statement}
use Rattle.sql_text.specs.declared.tree.Statement.TheVariants as statement
use Rattle.sql_text.specs.Trees.{Tree}
use Rattle.beas_laws.specs.Unreadable.{TellsFailures, failed_file, unreadable_in}
use Rattle.beas_laws.proofs.BinderFacts.{delete_other, refusals_other, rows_other}
use Rattle.beas_laws.proofs.CheckFacts.{add_table_other, admit_other, bound_other, broken_other, drop_other, file_other, grouping_other, insert_other, preparation_err, resolve_other, scan_err, specialised_err}
use Rattle.beas_laws.proofs.ListFacts.{Other, and_then_err, either_err, if_other, ok_or_err, or_other, or_refusal_err, unless_refused_err}

-- ---- answers

named_err : (schema : Schema) (table : List ℕ) → IfErr (table_or_refusal schema table) Other
named_err schema table = ok_or_err (table_named schema table) (UnknownTable table) refl

limit_err : (digits : List ℕ) → IfErr (limit_or_refusal digits) Other
limit_err digits = ok_or_err (limit_in digits) (BadLimit digits) refl

tuples_err : (limits : Limits) (tuples : List (List Literal)) → IfErr (tuples_binding limits tuples) Other
tuples_err limits tuples = unless_refused_err (row_refusals limits tuples) (bound_rows tuples) (rows_other limits tuples)

delete_err : (limits : Limits) (db : Database) (table : List ℕ) (conditions : List Cond) → IfErr (delete_binding limits db table conditions) Other
delete_err limits db table conditions =
    unless_refused_err (delete_refusals limits (schema_of db) table conditions) (bound_delete (schema_of db) table conditions)
    (delete_other limits (schema_of db) table conditions)

file_err : (limits : Limits) (columns : List Column) (bytes : List ℕ) → IfErr (file_rows limits columns bytes) Other
file_err limits columns bytes =
    or_refusal_err (fault_of limits.text columns bytes) (rows_in limits.text columns bytes) (file_other limits.text columns bytes)

resolution_err : (schema : Schema) (table : List ℕ) (key fetched : List (List ℕ)) → IfErr (resolution schema table key fetched) Other
resolution_err schema table key fetched =
    or_refusal_err (resolve_refusal schema table key fetched) (resolved_in schema table key fetched) (resolve_other schema table key fetched)

binding_err : (limits : Limits) (schema : Schema) (tree : Tree) → IfErr (binding limits schema tree) Other
binding_err limits schema tree = unless_refused_err (refusals limits schema tree) (bound_query schema tree) (refusals_other limits schema tree)

budget_err : (budget : Option ℕ) (prepared : Prepared) → IfErr (within_budget budget prepared) Other
budget_err None prepared = tt
budget_err (Some budget) prepared = either_err (nat_le prepared.bound budget) (Ok prepared) (Err (OverBudget prepared.bound budget)) tt refl

pub announcement_err : (limits : Limits) (budget : Option ℕ) (schema : Schema) (tree : Tree) → IfErr (announcement limits budget schema tree) Other
unfolding announcement
announcement_err limits budget schema tree =
    and_then_err (binding limits schema tree) _ (binding_err limits schema tree) (λ query.
    and_then_err (preparation schema query) (within_budget budget) (preparation_err schema query) (budget_err budget))

scans_err : (budget : Option ℕ) (plan : ScanPlan) → IfErr (scans_within_budget budget plan) Other
scans_err None plan = tt
scans_err (Some budget) plan = either_err (nat_le plan.bound budget) (Ok plan) (Err (OverBudget plan.bound budget)) tt refl

scan_announcement_err : (limits : Limits) (budget : Option ℕ) (schema : Schema) (sizes : TableSizes) (tree : Tree)
    → IfErr (scan_announcement limits budget schema sizes tree) Other
unfolding scan_announcement
scan_announcement_err limits budget schema sizes tree =
    and_then_err (binding limits schema tree) _ (binding_err limits schema tree) (λ query.
    and_then_err (scan_preparation schema sizes query) (scans_within_budget budget) (scan_err schema sizes query) (scans_err budget))

-- ---- effects

-- the report names no file as unreadable
abbrev Names : Effect → Option (List ℕ) → Type 0
Names effect file = unreadable_in effect.report ≡ file

unless_none : (o : Option Refusal) (db : Database) (effect : Effect) → IfSome o Other → Names effect None → Names (unless o db effect) None
unless_none None db effect h k = k
unless_none (Some why) db effect h k = h

answer_none : {A : Type 0} (r : Result A Refusal) (db : Database) (effect : A → Effect) → IfErr r Other → ((answer : A) → Names (effect answer) None)
    → Names (with_answer r db effect) None
answer_none (Ok answer) db effect h k = k answer
answer_none (Err why) db effect h k = h

create_table_none : (limits : Limits) (db : Database) (name : List ℕ) (columns : List Column)
    → Names (create_table_effect limits db name columns) None
create_table_none limits db name columns = unless_none _ db _ (add_table_other limits (schema_of db) name columns) refl

create_access_none : (limits : Limits) (db : Database) (spec : AccessSpec) → Names (create_access_effect limits db spec) None
create_access_none limits db spec =
    let access = new_access (schema_of db) spec in
    unless_none _ db (build_access_effect db access) (admit_other limits (schema_of db) spec)
    (unless_none _ db _ (broken_other (rows_at db access.table) access) refl)

drop_access_none : (db : Database) (name : List ℕ) → Names (drop_access_effect db name) None
drop_access_none db name = unless_none _ db _ (drop_other (schema_of db) name) refl

insert_none : (limits : Limits) (db : Database) (table : List ℕ) (tuples : List (List Literal)) → Names (insert_effect limits db table tuples) None
insert_none limits db table tuples =
    answer_none (table_or_refusal (schema_of db) table) db _ (named_err (schema_of db) table) (λ id.
    answer_none (tuples_binding limits tuples) db _ (tuples_err limits tuples) (λ rows.
    unless_none _ db _ (insert_other limits db id rows) refl))

delete_none : (limits : Limits) (db : Database) (table : List ℕ) (conditions : List Cond) → Names (delete_effect limits db table conditions) None
delete_none limits db table conditions =
    answer_none (delete_binding limits db table conditions) db (delete_rows_effect db) (delete_err limits db table conditions) (λ block. refl)

group_none : (db : Database) (table : List ℕ) (key fetched : List (List ℕ)) → Names (discover_group_effect db table key fetched) None
group_none db table key fetched =
    answer_none (resolution (schema_of db) table key fetched) db _ (resolution_err (schema_of db) table key fetched) (λ r. refl)

pairs_none : (db : Database) (table digits : List ℕ) → Names (discover_pairs_effect db table digits) None
pairs_none db table digits =
    answer_none (table_or_refusal (schema_of db) table) db _ (named_err (schema_of db) table) (λ id.
    answer_none (limit_or_refusal digits) db _ (limit_err digits) (λ limit. refl))

select_none : (s : Settings) (db : Database) (tree : Tree) → Names (select_effect s db tree) None
select_none s db tree =
    answer_none (announcement s.limits s.budget (schema_of db) tree) db _ (announcement_err s.limits s.budget (schema_of db) tree) (λ prepared. refl)

explain_none : (limits : Limits) (budget : Option ℕ) (db : Database) (tree : Tree) → Names (explain_effect limits budget db tree) None
explain_none limits budget db tree =
    answer_none (announcement limits budget (schema_of db) tree) db _ (announcement_err limits budget (schema_of db) tree) (λ prepared. refl)

scan_none : (s : Settings) (db : Database) (tree : Tree) → Names (scan_effect s db tree) None
scan_none s db tree = answer_none _ db _ (scan_announcement_err s.limits s.budget (schema_of db) _ tree) (λ plan. refl)

grouped_none : (s : Settings) (db : Database) (items : List GroupItem) (keys : List ColumnRef) (inner : Tree)
    → Names (grouped_effect s db items keys inner) None
grouped_none s db items keys inner =
    answer_none (announcement s.limits s.budget (schema_of db) inner) db _ (announcement_err s.limits s.budget (schema_of db) inner) (λ prepared.
    unless_none _ db _ (grouping_other (schema_of db) (first_block prepared.query) (length keys) items) refl)

specialise_none : (limits : Limits) (db : Database) (tree : Tree) → Names (specialise_effect limits db tree) None
specialise_none limits db tree =
    answer_none (binding limits (schema_of db) tree) db _ (binding_err limits (schema_of db) tree) (λ query.
    answer_none (specialised db.accesses (first_block query)) db _ (specialised_err db.accesses (first_block query)) (λ places. refl))

-- ---- LOAD

load_other : (limits : Limits) (db : Database) (id : TableId) (rows : List Row) → IfSome (load_refusal limits db id rows) Other
load_other limits db id rows =
    or_other _ _ (if_other _ (TooMany Rows limits.rows) refl) (bound_other (accesses_on db.accesses id) (rows_at db id) rows)

load_names : (limits : Limits) (db : Database) (file : List ℕ) (id : TableId) (outcome : LoadOutcome)
    → Names (load_effect limits db file id outcome) (failed_file (Some (record { name = file; outcome = outcome })))
load_names limits db file id Failed = refl
load_names limits db file id TooLong = refl
load_names limits db file id (Content bytes) =
    answer_none (file_rows limits (columns_at (schema_of db) id) bytes) db (load_rows_effect limits db id)
    (file_err limits (columns_at (schema_of db) id) bytes) (λ rows. unless_none _ db _ (load_other limits db id rows) refl)

load_tells : (limits : Limits) (db : Database) (r : Result TableId Refusal) (file : List ℕ) (outcome : LoadOutcome) → IfErr r Other
    → TellsFailures (turn_of (load_action limits db r file) outcome)
load_tells limits db (Err why) file outcome h = h
load_tells limits db (Ok id) file outcome h = load_names limits db file id outcome

-- ---- each statement

pub statement_tells : (s : Settings) (db : Database) (st : Statement) (outcome : LoadOutcome) → TellsFailures (turn_of (action_of s db st) outcome)
statement_tells s db (statement.CreateTable name columns) outcome = create_table_none s.limits db name columns
statement_tells s db (statement.CreateAccess spec) outcome = create_access_none s.limits db spec
statement_tells s db (statement.DropAccess name) outcome = drop_access_none db name
statement_tells s db (statement.Load table file) outcome =
    load_tells s.limits db (table_or_refusal (schema_of db) table) file outcome (named_err (schema_of db) table)
statement_tells s db (statement.Insert table tuples) outcome = insert_none s.limits db table tuples
statement_tells s db (statement.Delete table conditions) outcome = delete_none s.limits db table conditions
statement_tells s db (statement.DiscoverGroup table key fetched) outcome = group_none db table key fetched
statement_tells s db (statement.DiscoverPairs table limit) outcome = pairs_none db table limit
statement_tells s db (statement.Select tree) outcome = select_none s db tree
statement_tells s db (statement.Explain tree) outcome = explain_none s.limits s.budget db tree
statement_tells s db (statement.ScanOk tree) outcome = scan_none s db tree
statement_tells s db (statement.Grouped items keys inner) outcome = grouped_none s db items keys inner
statement_tells s db (statement.Specialise tree) outcome = specialise_none s.limits db tree
