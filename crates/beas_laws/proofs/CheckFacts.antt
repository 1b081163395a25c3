-- The checks of catalogue, files, plans and groups name no file as unreadable.
use Rattle.std.proofs.Common.{◌+◌, ◌++◌, ◌^◌, ℕ, nat_le, nat_lt, List, [], ◌∷◌, length, map, take, Option, Some, None, Ok, Err, refl}
use Rattle.std.specs.Prelude.{◌==◌, IfSome, IfErr, find, is_some, slice_index_or}
use Rattle.std.specs.List.{enumerate_from}
use Rattle.std.specs.Option.{is_none, option_map}
use Rattle.beas_core.specs.declared.limits.Limits.{Limits}
use Rattle.beas_core.specs.declared.query.Block.{Block}
use Rattle.beas_core.specs.declared.plan.NotCovered.{NotCovered}
use Rattle.beas_core.specs.declared.plan.NotCovered.TheVariants.{ColumnOpen, AtomUnindexed}
use Rattle.beas_core.specs.declared.refusal.Refusal.TheVariants.{TableExists, UnknownTable, UnknownColumn, DuplicateName, WrongType, BadField, BadLimit, AlreadyBroken, HeaderMismatch, NotGrouped, RecordWidth, SumOfText, TooLarge, TooMany, TooManyCandidates, UnknownAccess, WrongWidth}
use Rattle.beas_core.specs.declared.refusal.Counted.TheVariants.{Tables, Columns, Constraints, Rows}
use Rattle.beas_core.specs.declared.schema.Access.{Access}
use Rattle.beas_core.specs.declared.schema.AccessSpec.{AccessSpec}
use Rattle.beas_core.specs.declared.schema.Column.{Column}
use Rattle.beas_core.specs.declared.schema.TableId.{TableId}
use Rattle.beas_core.specs.Guiding.{BlockTask, Uncovered, block_tasks, first_uncovered}
use Rattle.beas_core.specs.Spelling.{limit_in}
use Rattle.beas_core.specs.Trees.{QueryTree, blocks_of}
use Rattle.beas_core.specs.Types.{Row}
use Rattle.catalogue.specs.Database.{Database, rows_at, schema_of}
use Rattle.catalogue.specs.Refusing.{add_table_refusal, admit_refusal, already_broken, breaks_bound, broken, broken_bound, columns_of_named, drop_access_refusal, first_repeated, insert_refusal, misfit, no_such_column, repeated_columns, repeated_name, resolve_refusal, unknown_column, unknown_columns, unknown_table, wrong_type, wrong_width}
use Rattle.catalogue.specs.Schema.{Schema, accesses_on, columns_at}
use Rattle.csv_load.specs.CsvRows.{Record, bad_column, fault_in, fault_of, fault_under, first_fault, in_file_order, is_header, records_of}
use Rattle.partial_plan.specs.ScanPlans.{scan_lists, scan_plan_over, scan_preparation}
use Rattle.plan_builder.specs.Preparation.{announced_number, no_block, not_covered, preparation, prepared_query, unless_uncovered}
use Rattle.partial_plan.specs.Scans.{TableSizes}
use Rattle.session.specs.Grouping.{grouping_refusal, is_text_sum, is_ungrouped, key_places, name_in, placed_items, text_sum_refusal, ungrouped_refusal}
use Rattle.specialise.specs.Specialised.{specialised}
use Rattle.sql_text.specs.declared.tree.GroupItem.{GroupItem}
use Rattle.beas_laws.proofs.ListFacts.{Other, either_err, either_other, first_of_other, first_some_other, if_other, map_other, or_other}

-- ---- the catalogue

pub table_other : (schema : Schema) (name : List ℕ) → IfSome (unknown_table schema name) Other
table_other schema name = if_other _ (UnknownTable name) refl

pub repeated_other : (names : List (List ℕ)) → IfSome (repeated_name names) Other
repeated_other names = map_other DuplicateName (λ n. refl) (first_repeated names)

column_other : (columns : List Column) (names : List (List ℕ)) → IfSome (unknown_column columns names) Other
column_other columns names = map_other (UnknownColumn None) (λ n. refl) (find (no_such_column columns) names)

columns_other : (columns : List Column) (key fetched : List (List ℕ)) → IfSome (unknown_columns columns key fetched) Other
columns_other columns key fetched = or_other _ _ (column_other columns key) (column_other columns fetched)

twice_other : (key fetched : List (List ℕ)) → IfSome (repeated_columns key fetched) Other
twice_other key fetched = or_other _ _ (repeated_other key) (repeated_other fetched)

pub add_table_other : (limits : Limits) (schema : Schema) (name : List ℕ) (columns : List Column)
    → IfSome (add_table_refusal limits schema name columns) Other
add_table_other limits schema name columns =
    or_other _ _ (if_other _ (TableExists name) refl)
    (or_other _ _ (repeated_other (map (λ c. c.name) columns))
    (or_other _ _ (if_other (nat_le limits.tables (length schema.tables)) (TooMany Tables limits.tables) refl)
    (if_other (nat_lt limits.columns (length columns)) (TooMany Columns limits.columns) refl)))

pub resolve_other : (schema : Schema) (table : List ℕ) (key fetched : List (List ℕ)) → IfSome (resolve_refusal schema table key fetched) Other
resolve_other schema table key fetched =
    or_other _ _ (table_other schema table)
    (or_other _ _ (columns_other (columns_of_named schema table) key fetched) (twice_other key fetched))

pub admit_other : (limits : Limits) (schema : Schema) (spec : AccessSpec) → IfSome (admit_refusal limits schema spec) Other
admit_other limits schema spec =
    or_other _ _ (table_other schema spec.table)
    (or_other _ _ (columns_other (columns_of_named schema spec.table) spec.key spec.fetched)
    (or_other _ _ (if_other _ (DuplicateName spec.name) refl)
    (or_other _ _ (twice_other spec.key spec.fetched)
    (or_other _ _ (if_other (is_none (limit_in spec.limit)) (BadLimit spec.limit) refl)
    (if_other (nat_le limits.constraints schema.created) (TooMany Constraints limits.constraints) refl)))))

pub drop_other : (schema : Schema) (name : List ℕ) → IfSome (drop_access_refusal schema name) Other
drop_other schema name = if_other _ (UnknownAccess name) refl

pub broken_other : (rows : List Row) (access : Access) → IfSome (already_broken rows access) Other
broken_other rows access = if_other _ (AlreadyBroken _ access.bound) refl

pub bound_other : (accesses : List Access) (before rows : List Row) → IfSome (broken_bound accesses before rows) Other
bound_other accesses before rows =
    first_of_other (λ r. option_map (breaks_bound r) (broken accesses (before ++ take r.0 rows)))
    (λ r. map_other (breaks_bound r) (λ a. refl) (broken accesses (before ++ take r.0 rows))) (enumerate_from 1 rows)

width_other : (columns : List Column) (rows : List Row) → IfSome (wrong_width columns rows) Other
width_other columns rows = map_other (λ r. WrongWidth r.0 (length r.1) (length columns)) (λ r. refl) _

type_other : (columns : List Column) (rows : List Row) → IfSome (wrong_type columns rows) Other
type_other columns rows = map_other (λ r. WrongType r.0 _) (λ r. refl) (find (λ r. is_some (misfit columns r.1)) (enumerate_from 1 rows))

pub insert_other : (limits : Limits) (db : Database) (id : TableId) (rows : List Row) → IfSome (insert_refusal limits db id rows) Other
insert_other limits db id rows =
    or_other _ _ (width_other (columns_at (schema_of db) id) rows)
    (or_other _ _ (type_other (columns_at (schema_of db) id) rows)
    (or_other _ _ (if_other _ (TooMany Rows limits.rows) refl) (bound_other (accesses_on db.accesses id) (rows_at db id) rows)))

-- ---- files

field_other : (longest : ℕ) (columns : List Column) (nth : ℕ) (fields : Record) → IfSome (fault_in longest columns nth fields) Other
field_other longest columns nth fields =
    either_other (length fields == length columns) _ (Some (RecordWidth nth (length fields) (length columns)))
    (map_other (λ column. BadField nth column.name) (λ column. refl) (bad_column longest columns fields)) refl

first_other : (longest : ℕ) (columns : List Column) (records : List Record) → IfSome (first_fault longest columns records) Other
unfolding first_fault
first_other longest columns [] = refl
first_other longest columns (header ∷ records) =
    let order = in_file_order columns header in
    either_other (is_header columns header) (fault_under longest order records) (Some HeaderMismatch)
    (first_some_other (λ p. fault_in longest order p.0 p.1) (λ p. field_other longest order p.0 p.1) (enumerate_from 1 records)) refl

pub file_other : (longest : ℕ) (columns : List Column) (text : List ℕ) → IfSome (fault_of longest columns text) Other
file_other longest columns text = first_other longest columns (records_of text)

-- ---- plans

uncovered_other : (schema : Schema) (number : ℕ) (block : Block) (why : NotCovered) → Other (not_covered schema number block why)
uncovered_other schema number block (ColumnOpen atom column) = refl
uncovered_other schema number block (AtomUnindexed atom) = refl

tasks_err : (schema : Schema) (accesses : List Access) (tasks : List BlockTask) (query : QueryTree) (o : Option Uncovered)
    → IfErr (unless_uncovered schema accesses tasks query o) Other
tasks_err schema accesses tasks query (Some found) =
    uncovered_other schema (found.block + 1) (slice_index_or (blocks_of query) found.block no_block) found.why
tasks_err schema accesses tasks query None =
    either_err (nat_le (2 ^ 128) (announced_number accesses tasks query)) (Err TooLarge) (Ok (prepared_query schema accesses tasks query)) refl tt

pub preparation_err : (schema : Schema) (query : QueryTree) → IfErr (preparation schema query) Other
unfolding preparation
preparation_err schema query =
    let tasks = block_tasks (λ n. schema.accesses) query in
    tasks_err schema schema.accesses tasks query (first_uncovered tasks)

pub scan_err : (schema : Schema) (sizes : TableSizes) (query : QueryTree) → IfErr (scan_preparation schema sizes query) Other
unfolding scan_preparation
scan_err schema sizes query =
    let plan = scan_plan_over schema sizes query (scan_lists schema sizes query) in
    either_err (nat_le (2 ^ 128) plan.bound) (Err TooLarge) (Ok plan) refl tt

pub specialised_err : (accesses : List Access) (block : Block) → IfErr (specialised accesses block) Other
specialised_err accesses block = either_err _ (Err (TooManyCandidates _)) (Ok _) refl tt

-- ---- groups

pub grouping_other : (schema : Schema) (block : Block) (keys : ℕ) (items : List GroupItem) → IfSome (grouping_refusal schema block keys items) Other
grouping_other schema block keys items =
    or_other (ungrouped_refusal block keys items) (text_sum_refusal schema block keys items)
    (map_other (λ i. NotGrouped (name_in i)) (λ i. refl) (find (is_ungrouped (key_places block keys)) (placed_items block keys items)))
    (map_other (λ i. SumOfText (name_in i)) (λ i. refl) (find (is_text_sum schema block) (placed_items block keys items)))
