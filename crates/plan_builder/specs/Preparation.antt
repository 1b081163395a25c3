-- What is announced of a query over a schema, before any row is read. Its blocks are tasks, each with the constraints that it may use;
-- `accesses` are all of them, in which the constraints of steps are found by id.
--     header_of schema blocks                        the column names of the first block's output
--     plans_of, flags_of tasks                       of each block its canonical derivation, and whether it is guided
--     announced_number accesses tasks query          how many tuples the query reads at most, where its blocks are all covered
--     preparation_of schema accesses tasks query     the query with its header, and of each block its normal form, its derivation and
--                                                    whether it is guided, unless a block isn't covered or the number passes 2^128 - 1
--     preparation schema query                       so it is prepared, where each block may use all live constraints
--     preparation_over schema extra query            so it is prepared, where block n may use the live constraints and then those of list n
use Rattle.std.specs.Prelude.{◌+◌, ◌++◌, ◌^◌, if◌then◌else◌, nat_le, Bool, ℕ, List, [], ◌∷◌, length, map, slice_index_or, Option, Some, None, Result, Ok, Err, unwrap_or}
use Rattle.std.specs.List.{flat_map}
use Rattle.beas_core.specs.declared.schema.Access.{Access}
use Rattle.beas_core.specs.declared.schema.ColumnId.{ColumnId}
use Rattle.beas_core.specs.declared.schema.TableId.{TableId}
use Rattle.beas_core.specs.declared.query.Block.{Block}
use Rattle.beas_core.specs.declared.query.Place.{Place}
use Rattle.beas_core.specs.declared.plan.Derivation.{Derivation}
use Rattle.beas_core.specs.declared.plan.Prepared.{Prepared}
use Rattle.beas_core.specs.declared.plan.NotCovered.{NotCovered}
use Rattle.beas_core.specs.declared.plan.NotCovered.TheVariants.{ColumnOpen, AtomUnindexed}
use Rattle.beas_core.specs.declared.refusal.Refusal.{Refusal}
use Rattle.beas_core.specs.declared.refusal.Refusal.TheVariants as refusal
use Rattle.beas_core.specs.Trees.{QueryTree, blocks_of}
use Rattle.beas_core.specs.Classes.{normal_of}
use Rattle.beas_core.specs.Guiding.{BlockTask, Uncovered, block_tasks, first_uncovered, is_guided_task, task_steps}
use Rattle.beas_core.specs.Queries.{query_bound}
use Rattle.beas_core.specs.Shapes.{AccessIsWellFormed}
use Rattle.catalogue.specs.Schema.{Schema, columns_at}

-- ---- names

abbrev pub column_name : Schema → TableId → ColumnId → List ℕ
column_name schema table column = slice_index_or (map (λ c. c.name) (columns_at schema table)) column.0 []

-- the table of an atom of a block
abbrev pub atom_table : Block → ℕ → TableId
atom_table block atom = slice_index_or (map (λ a. a.table) block.atoms) atom (record { 0 = 0 })

abbrev pub place_name : Schema → Block → Place → List ℕ
place_name schema block place = column_name schema (atom_table block place.atom) place.column

abbrev pub block_header : Schema → Block → List (List ℕ)
block_header schema block = map (place_name schema block) block.output

abbrev pub header_of : Schema → List Block → List (List ℕ)
header_of schema [] = []
header_of schema (block ∷ blocks) = block_header schema block

-- ---- blocks that aren't covered

-- blocks and atoms are numbered from 1 in a refusal
abbrev pub not_covered : Schema → ℕ → Block → NotCovered → Refusal
not_covered schema number block (ColumnOpen atom column) =
    refusal.NotCovered number (atom + 1) (Some (place_name schema block (record { atom = atom; column = column })))
not_covered schema number block (AtomUnindexed atom) = refusal.NotCovered number (atom + 1) None

abbrev pub no_block : Block
no_block = record { atoms = []; equalities = []; constants = []; comparisons = []; output = [] }

abbrev pub refusal_of : Schema → List Block → Uncovered → Refusal
refusal_of schema blocks found =
    not_covered schema (found.block + 1) (slice_index_or blocks found.block no_block) found.why

-- ---- what is prepared

-- the canonical derivation of a covered block
abbrev pub task_plan : BlockTask → Derivation
task_plan task = record { steps = unwrap_or (task_steps task) [] }

abbrev pub plans_of : List BlockTask → List Derivation
plans_of tasks = map task_plan tasks

abbrev pub flags_of : List BlockTask → List Bool
flags_of tasks = map is_guided_task tasks

abbrev pub announced_number : List Access → List BlockTask → QueryTree → ℕ
announced_number accesses tasks query = query_bound accesses (flags_of tasks) (plans_of tasks) query

abbrev pub prepared_query : Schema → List Access → List BlockTask → QueryTree → Prepared
prepared_query schema accesses tasks query = record {
  query = query;
  header = header_of schema (blocks_of query);
  normals = map normal_of (blocks_of query);
  derivations = plans_of tasks;
  bound = announced_number accesses tasks query;
  guided = flags_of tasks;
}

-- refused at the first block that isn't covered, and where all are, at a number past 2^128 - 1
abbrev pub unless_uncovered : Schema → List Access → List BlockTask → QueryTree → Option Uncovered → Result Prepared Refusal
unless_uncovered schema accesses tasks query (Some found) = Err (refusal_of schema (blocks_of query) found)
unless_uncovered schema accesses tasks query None =
    if nat_le (2 ^ 128) (announced_number accesses tasks query) then Err refusal.TooLarge
    else Ok (prepared_query schema accesses tasks query)

abbrev pub preparation_of : Schema → List Access → List BlockTask → QueryTree → Result Prepared Refusal
preparation_of schema accesses tasks query = unless_uncovered schema accesses tasks query (first_uncovered tasks)

unfoldable pub preparation : Schema → QueryTree → Result Prepared Refusal
preparation schema query = preparation_of schema schema.accesses (block_tasks (λ n. schema.accesses) query) query

-- ---- with further constraints

-- what block n may use, where `extra` has a list of further constraints for each block; a list that isn't there is an empty one
abbrev pub constraints_with : List Access → List (List Access) → ℕ → List Access
constraints_with accesses extra n = accesses ++ slice_index_or extra n []

-- all that some block may use
abbrev pub with_lists : List Access → List (List Access) → List Access
with_lists accesses extra = accesses ++ flat_map (λ more. more) extra

-- a constraint on columns of its table
abbrev pub IsWellFormedIn : Schema → Access → Type 0
IsWellFormedIn schema access = AccessIsWellFormed (length (columns_at schema access.table)) access

unfoldable pub preparation_over : Schema → List (List Access) → QueryTree → Result Prepared Refusal
preparation_over schema extra query =
    preparation_of schema (with_lists schema.accesses extra) (block_tasks (constraints_with schema.accesses extra) query) query
