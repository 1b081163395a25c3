-- Scan plans: how a query is run that its live constraints needn't cover. While a block isn't covered, the atom that its reason names gets a
-- scan constraint, which fetches what the block needs of the atom's table, without a key.
--     scan_of sizes block atom number           the scan constraint of an atom, where so many were made before
--     lists_after schema sizes query n          of each block its list of scan constraints, after n looks for a block that isn't covered
--     scan_lists schema sizes query             these lists when all blocks are covered
--     used_scans lists plans                    the scans: those of the lists that stand in a step, by block and then by list
--     scan_preparation schema sizes query       the query prepared over these lists, with its scans, and as its number that of the prepared query
--                                               and the rows of the scans' tables; refused where this passes 2^128 - 1
--     without_scans prepared                    what a covered query is prepared as
--     scan_plan_reads rows accesses plan        how many reads it takes to run it
--     ScanPlanFits accesses rows tables plan    it may be run over a port with these constraints and rows, which are those of the tables
use Rattle.std.specs.Prelude.{◌≡◌, ◌+◌, ◌*◌, ◌<◌, ◌++◌, ◌==◌, ◌^◌, if◌then◌else◌, nat_le, Bool, false, ℕ, zero, suc, List, [], ◌∷◌, length, map, filter, max, codes, All, slice_index_or, slice_set, Option, None, Some, Result, Ok, Err}
use Rattle.std.specs.List.{list_any, flat_map}
use Rattle.beas_core.specs.declared.schema.Access.{Access}
use Rattle.beas_core.specs.declared.schema.ColumnId.{ColumnId}
use Rattle.beas_core.specs.declared.query.Block.{Block}
use Rattle.beas_core.specs.declared.plan.Derivation.{Derivation}
use Rattle.beas_core.specs.declared.plan.NotCovered.{NotCovered}
use Rattle.beas_core.specs.declared.plan.NotCovered.TheVariants.{ColumnOpen, AtomUnindexed}
use Rattle.beas_core.specs.declared.plan.Prepared.{Prepared}
use Rattle.beas_core.specs.declared.refusal.Refusal.{Refusal}
use Rattle.beas_core.specs.declared.refusal.Refusal.TheVariants.{TooLarge}
use Rattle.beas_core.specs.Types.{Row, TableRows}
use Rattle.beas_core.specs.Trees.{QueryTree, blocks_of}
use Rattle.beas_core.specs.Classes.{normal_of}
use Rattle.beas_core.specs.Coverage.{needed_of}
use Rattle.beas_core.specs.Derivations.{is_live}
use Rattle.beas_core.specs.Guiding.{BlockTask, Uncovered, block_tasks, first_uncovered}
use Rattle.beas_core.specs.Queries.{query_reads}
use Rattle.beas_core.specs.Fits.{Fits}
use Rattle.catalogue.specs.Schema.{Schema}
use Rattle.plan_builder.specs.Preparation.{atom_table, no_block, constraints_with, with_lists, prepared_query}
use Rattle.partial_plan.specs.Scans.{TableSizes, sizes_of, rows_of_tables, scanned_rows}
use Rattle.partial_plan.specs.declared.plan.ScanPlan.{ScanPlan}

-- ---- scan constraints

-- what is fetched of an atom of which nothing is needed
abbrev pub or_first : List ColumnId → List ColumnId
or_first [] = record { 0 = 0 } ∷ []
or_first (column ∷ columns) = column ∷ columns

abbrev pub scan_of : TableSizes → Block → ℕ → ℕ → Access
scan_of sizes block atom number = record {
  id = record { 0 = 65536 + number };
  name = codes "scan";
  table = atom_table block atom;
  key = [];
  fetched = or_first (needed_of (normal_of block) atom);
  bound = max 1 (sizes (atom_table block atom));
}

abbrev pub named_atom : NotCovered → ℕ
named_atom (ColumnOpen atom column) = atom
named_atom (AtomUnindexed atom) = atom

-- the scan constraint that a block lacks
abbrev pub scan_for : TableSizes → QueryTree → ℕ → Uncovered → Access
scan_for sizes query number found = scan_of sizes (slice_index_or (blocks_of query) found.block no_block) (named_atom found.why) number

-- ---- lists of them

-- the blocks of a query, each with the live constraints followed by its list
abbrev pub tasks_with : Schema → List (List Access) → QueryTree → List BlockTask
tasks_with schema lists query = block_tasks (constraints_with schema.accesses lists) query

-- one more scan constraint, at the end of the list of the block that isn't covered
abbrev pub with_scan : TableSizes → QueryTree → ℕ → List (List Access) → Option Uncovered → List (List Access)
with_scan sizes query number lists None = lists
with_scan sizes query number lists (Some found) =
    slice_set lists found.block (slice_index_or lists found.block [] ++ scan_for sizes query number found ∷ [])

abbrev pub lists_after : Schema → TableSizes → QueryTree → ℕ → List (List Access)
lists_after schema sizes query zero = map (λ block. []) (blocks_of query)
lists_after schema sizes query (suc n) =
    with_scan sizes query n (lists_after schema sizes query n) (first_uncovered (tasks_with schema (lists_after schema sizes query n) query))

-- no atom is named twice, and a block has at most 16
unfoldable pub scan_lists : Schema → TableSizes → QueryTree → List (List Access)
scan_lists schema sizes query = lists_after schema sizes query (16 * length (blocks_of query))

-- ---- plans

abbrev pub is_used : List Derivation → Access → Bool
is_used plans access = list_any (λ plan. list_any (λ s. s.access.0 == access.id.0) plan.steps) plans

abbrev pub used_scans : List (List Access) → List Derivation → List Access
used_scans lists plans = filter (is_used plans) (flat_map (λ scans. scans) lists)

-- what was prepared over lists, with the scans of the lists
abbrev pub plan_over_lists : TableSizes → List (List Access) → Prepared → ScanPlan
plan_over_lists sizes lists prepared = record {
  prepared = prepared;
  scans = used_scans lists prepared.derivations;
  bound = scanned_rows sizes (used_scans lists prepared.derivations) + prepared.bound;
}

abbrev pub scan_plan_over : Schema → TableSizes → QueryTree → List (List Access) → ScanPlan
scan_plan_over schema sizes query lists =
    plan_over_lists sizes lists (prepared_query schema (with_lists schema.accesses lists) (tasks_with schema lists query) query)

abbrev pub unless_too_large : ScanPlan → Result ScanPlan Refusal
unless_too_large plan = if nat_le (2 ^ 128) plan.bound then Err TooLarge else Ok plan

unfoldable pub scan_preparation : Schema → TableSizes → QueryTree → Result ScanPlan Refusal
scan_preparation schema sizes query = unless_too_large (scan_plan_over schema sizes query (scan_lists schema sizes query))

-- a query that is covered without scans
abbrev pub without_scans : Prepared → ScanPlan
without_scans prepared = record { prepared = prepared; scans = []; bound = prepared.bound }

abbrev pub plan_without_scans : Result Prepared Refusal → Result ScanPlan Refusal
plan_without_scans (Ok prepared) = Ok (without_scans prepared)
plan_without_scans (Err why) = Err why

-- ---- running them

abbrev pub scan_plan_reads : TableRows → List Access → ScanPlan → ℕ
scan_plan_reads rows accesses plan =
    scanned_rows (sizes_of rows) plan.scans
    + query_reads rows (accesses ++ plan.scans) plan.prepared.guided plan.prepared.derivations plan.prepared.query

-- a scan of one of some tables with these rows, whose id is none of the port's constraints'
pub record IsNewScan (accesses : List Access) (tables : List (List Row)) (scan : Access) : Type 0 where
  pub table : scan.table.0 < length tables
  pub bound : scan.bound ≡ max 1 (sizes_of (rows_of_tables tables) scan.table)
  pub id : is_live accesses scan.id ≡ false

pub record ScanPlanFits (accesses : List Access) (rows : TableRows) (tables : List (List Row)) (plan : ScanPlan) : Type 0 where
  pub fits : Fits (accesses ++ plan.scans) rows plan.prepared
  pub scans : All (IsNewScan accesses tables) plan.scans
  pub bound : plan.bound ≡ scanned_rows (sizes_of rows) plan.scans + plan.prepared.bound
