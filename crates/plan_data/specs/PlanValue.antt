-- A prepared query as a JSON value. Blocks, atoms, columns and classes are numbered from 0 on.
--     plan_value prepared header schema    the whole, where `header` names the columns of the answer
--     query_value n t                      how the blocks from number n on make the answers of a tree
--     block_value schema normal plan guided    a block: its conditions by classes, its output, and the steps that fetch it
--     printed value                        the text of a value, without a space between its tokens
use Rattle.std.specs.Prelude.{Bool, ℕ, List, [], ◌∷◌, map, codes, decimal, slice_index_or}
use Rattle.std.specs.Fmt.{signed_decimal}
use Rattle.std.specs.List.{enumerate_from}
use Rattle.json.specs.Json.{Json, boolean, number, string, array, object, Members, no_members, member}
use Rattle.json.specs.Print.{print}
use Rattle.json.specs.Tree.{json_tokens}
use Rattle.json.specs.Value.{items_of}
use Rattle.beas_core.specs.declared.schema.Access.{Access}
use Rattle.beas_core.specs.declared.schema.ColType.TheVariants.{Integer}
use Rattle.beas_core.specs.declared.schema.Column.{Column}
use Rattle.beas_core.specs.declared.schema.ColumnId.{ColumnId}
use Rattle.beas_core.specs.declared.query.Atom.{Atom}
use Rattle.beas_core.specs.declared.query.Comparison.{Comparison}
use Rattle.beas_core.specs.declared.query.Operand.{Operand}
use Rattle.beas_core.specs.declared.query.Operand.TheVariants.{At, Fixed}
use Rattle.beas_core.specs.declared.query.Place.{Place}
use Rattle.beas_core.specs.declared.plan.Derivation.{Derivation}
use Rattle.beas_core.specs.declared.plan.DStep.{DStep}
use Rattle.beas_core.specs.declared.plan.Normal.{Normal}
use Rattle.beas_core.specs.declared.plan.Prepared.{Prepared}
use Rattle.beas_core.specs.declared.value.Value.{Value}
use Rattle.beas_core.specs.declared.value.Value.TheVariants.{Int, Str}
use Rattle.beas_core.specs.Trees.{QueryTree, Single, Either, Minus}
use Rattle.beas_core.specs.Guiding.{after}
use Rattle.beas_core.specs.Queries.{is_guided, plan_of}
use Rattle.catalogue.specs.Schema.{Schema, access_with_id, columns_at, table_at}
use Rattle.sql_text.specs.Canonical.{sign_text}

abbrev pub printed : Json → List ℕ
printed value = print (json_tokens value)

-- ---- values of any kind

abbrev pub list_of : List Json → Json
list_of values = array (items_of values)

abbrev pub members_in : List (List ℕ × Json) → Members
members_in [] = no_members
members_in (m ∷ ms) = member m.0 m.1 (members_in ms)

abbrev pub object_of : List (List ℕ × Json) → Json
object_of members = object (members_in members)

abbrev pub natural : ℕ → Json
natural n = number (decimal n)

-- a number of up to 128 bits, as a string: many readers keep 53 bits of a number
abbrev pub digits_of : ℕ → Json
digits_of n = string (decimal n)

abbrev pub pair_of : Json → Json → Json
pair_of x y = list_of (x ∷ y ∷ [])

-- ---- conditions and places

abbrev pub literal_value : Value → Json
literal_value (Int n) = number (signed_decimal n)
literal_value (Str text) = string text

abbrev pub place_value : Place → Json
place_value place = pair_of (natural place.atom) (natural place.column.0)

abbrev pub operand_value : Operand → Json
operand_value (Fixed value) = object_of ((codes "value", literal_value value) ∷ [])
operand_value (At place) = object_of ((codes "at", place_value place) ∷ [])

abbrev pub comparison_value : Comparison → Json
comparison_value c = object_of (
    (codes "left", place_value c.left)
    ∷ (codes "sign", string (sign_text c.sign))
    ∷ (codes "right", operand_value c.right) ∷ [])

-- ---- names

abbrev pub no_column : Column
no_column = record { name = []; kind = Integer }

abbrev pub column_value : List Column → ColumnId → Json
column_value columns id = string (slice_index_or columns id.0 no_column).name

abbrev pub columns_value : List Column → List ColumnId → Json
columns_value columns ids = list_of (map (column_value columns) ids)

abbrev pub atom_value : Schema → Atom → Json
atom_value schema atom = string (table_at schema atom.table).name

-- ---- a block

-- a step, which uses a constraint on an atom
abbrev pub use_value : Schema → DStep → Access → Json
use_value schema step access = object_of (
    (codes "atom", natural step.atom)
    ∷ (codes "table", string (table_at schema access.table).name)
    ∷ (codes "constraint", string access.name)
    ∷ (codes "key", columns_value (columns_at schema access.table) access.key)
    ∷ (codes "fetch", columns_value (columns_at schema access.table) access.fetched)
    ∷ (codes "limit", natural access.bound)
    ∷ (codes "adds", boolean step.adds) ∷ [])

abbrev pub step_value : Schema → DStep → Json
step_value schema step = use_value schema step (access_with_id schema.accesses step.access)

abbrev pub block_value : Schema → Normal → Derivation → Bool → Json
block_value schema normal plan guided = object_of (
    (codes "atoms", list_of (map (atom_value schema) normal.atoms))
    ∷ (codes "classes", list_of (map (λ classes. list_of (map natural classes)) normal.classes))
    ∷ (codes "count", natural normal.count)
    ∷ (codes "constants", list_of (map (λ c. pair_of (natural c.0) (literal_value c.1)) normal.constants))
    ∷ (codes "comparisons", list_of (map comparison_value normal.comparisons))
    ∷ (codes "output", list_of (map place_value normal.output))
    ∷ (codes "guided", boolean guided)
    ∷ (codes "steps", list_of (map (step_value schema) plan.steps)) ∷ [])

-- ---- the whole

-- one block, by its number
abbrev pub number_value : ℕ → Json
number_value n = object_of ((codes "block", natural n) ∷ [])

abbrev pub query_value : ℕ → QueryTree → Json
query_value n (Single block) = number_value n
query_value n (Either l r) = object_of ((codes "union", pair_of (query_value n l) (query_value (after n l) r)) ∷ [])
query_value n (Minus l r) = object_of ((codes "except", pair_of (query_value n l) (query_value (after n l) r)) ∷ [])

-- a block with its number
abbrev pub numbered_value : Schema → Prepared → ℕ × Normal → Json
numbered_value schema prepared block =
    block_value schema block.1 (plan_of prepared.derivations block.0) (is_guided prepared.guided block.0)

abbrev pub plan_value : Prepared → List (List ℕ) → Schema → Json
plan_value prepared header schema = object_of (
    (codes "bound", digits_of prepared.bound)
    ∷ (codes "columns", list_of (map string header))
    ∷ (codes "query", query_value 0 prepared.query)
    ∷ (codes "blocks", list_of (map (numbered_value schema prepared) (enumerate_from 0 prepared.normals))) ∷ [])
