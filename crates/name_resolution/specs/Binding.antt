-- What a query, the rows of an INSERT and the conditions of a DELETE are bound to.
--     refusals limits schema tree       why a query is refused: the first counts
--     bound_query schema tree           the query, where there is none
--     row_refusals limits rows, bound_rows rows
--     delete_refusals limits schema table conditions, bound_delete schema table conditions
use Rattle.std.specs.Prelude.{ℕ, true, false, List, [], ◌∷◌, ◌++◌, map, Option, Some, None}
use Rattle.std.specs.List.{enumerate_from, flat_map, filter_map}
use Rattle.beas_core.specs.declared.limits.Limits.{Limits}
use Rattle.beas_core.specs.declared.query.Block.{Block}
use Rattle.beas_core.specs.declared.refusal.Refusal.{Refusal}
use Rattle.beas_core.specs.declared.schema.ColType.{ColType}
use Rattle.beas_core.specs.declared.value.Value.{Value}
use Rattle.beas_core.specs.Trees as query
use Rattle.catalogue.specs.Schema.{Schema}
use Rattle.sql_text.specs.declared.tree.BlockTree.{BlockTree}
use Rattle.sql_text.specs.declared.tree.Cond.{Cond}
use Rattle.sql_text.specs.declared.tree.Literal.{Literal}
use Rattle.sql_text.specs.Trees as tree
use Rattle.name_resolution.specs.declared.kinds.Flaw.TheVariants.{UnknownColumn, AmbiguousColumn, NumberRange, TextTooLong}
use Rattle.name_resolution.specs.declared.kinds.Kind.{Kind}
use Rattle.name_resolution.specs.declared.kinds.Kind.TheVariants.{OfMeaning, Types, Shapes, Blocks, Atoms, Outputs}
use Rattle.name_resolution.specs.declared.meaning.LookedUp.{LookedUp}
use Rattle.name_resolution.specs.declared.meaning.Meaning.{Meaning}
use Rattle.name_resolution.specs.declared.meaning.Meaning.TheVariants.{Fixed}
use Rattle.name_resolution.specs.Meanings.{literal_meaning}
use Rattle.name_resolution.specs.LookedUp.{looked_up, bound_block}
use Rattle.name_resolution.specs.Refusing.{table_refusals, unknown_tables, repeated_aliases, number_range, text_too_long, places}

-- ---- queries

-- the blocks from left to right
abbrev pub blocks_of : tree.Tree → List BlockTree
blocks_of (tree.Block b) = b ∷ []
blocks_of (tree.Union left right) = blocks_of left ++ blocks_of right
blocks_of (tree.Except left right) = blocks_of left ++ blocks_of right

abbrev pub of_meaning : List Kind
of_meaning = OfMeaning UnknownColumn ∷ OfMeaning AmbiguousColumn ∷ OfMeaning NumberRange ∷ OfMeaning TextTooLong ∷ []

-- the kinds of refusal that come after unknown tables and repeated aliases, in their order
abbrev pub kinds : List Kind
kinds = of_meaning ++ Types ∷ Shapes ∷ Blocks ∷ Atoms ∷ Outputs ∷ []

abbrev pub places_in_all : Limits → List ColType → List LookedUp → Kind → List Refusal
places_in_all limits shape blocks kind = flat_map (places kind limits shape) (enumerate_from 1 blocks)

-- the types of the outputs of the first block
abbrev pub shape_of : List LookedUp → List ColType
shape_of [] = []
shape_of (block ∷ more) = block.kinds

unfoldable pub looked_refusals : Limits → List LookedUp → List Refusal
looked_refusals limits blocks = flat_map (places_in_all limits (shape_of blocks) blocks) kinds

unfoldable pub refusals : Limits → Schema → tree.Tree → List Refusal
refusals limits schema tree =
    flat_map (unknown_tables schema) (blocks_of tree) ++ flat_map repeated_aliases (blocks_of tree)
    ++ looked_refusals limits (map (looked_up schema) (blocks_of tree))

-- the query with each block made a bound one
abbrev pub with_blocks : (BlockTree → Block) → tree.Tree → query.QueryTree
with_blocks bind (tree.Block b) = query.Single (bind b)
with_blocks bind (tree.Union left right) = query.Either (with_blocks bind left) (with_blocks bind right)
with_blocks bind (tree.Except left right) = query.Minus (with_blocks bind left) (with_blocks bind right)

abbrev pub bound_query : Schema → tree.Tree → query.QueryTree
bound_query schema tree = with_blocks (λ b. bound_block (looked_up schema b)) tree

-- ---- rows

abbrev pub number_refusals : Literal → List Refusal
number_refusals literal = number_range (literal_meaning literal)

abbrev pub text_refusals : ℕ → Literal → List Refusal
text_refusals limit literal = text_too_long limit (literal_meaning literal)

unfoldable pub row_refusals : Limits → List (List Literal) → List Refusal
row_refusals limits rows =
    flat_map (flat_map number_refusals) rows ++ flat_map (flat_map (text_refusals limits.text)) rows

abbrev pub value_of : Meaning → Option Value
value_of (Fixed value) = Some value
value_of _ = None

abbrev pub bound_row : List Literal → List Value
bound_row literals = filter_map (λ literal. value_of (literal_meaning literal)) literals

abbrev pub bound_rows : List (List Literal) → List (List Value)
bound_rows rows = map bound_row rows

-- ---- deletes

-- the block of one atom, whose alias is the table's name
abbrev pub delete_block : List ℕ → List Cond → BlockTree
delete_block table conditions = record {
  distinct = true;
  star = false;
  items = [];
  from_items = record { table = table; alias = table } ∷ [];
  conditions = conditions;
}

abbrev pub delete_kinds : List Kind
delete_kinds = OfMeaning UnknownColumn ∷ OfMeaning NumberRange ∷ OfMeaning TextTooLong ∷ Types ∷ []

abbrev pub places_of_kinds : Limits → LookedUp → List Kind → List Refusal
places_of_kinds limits block kinds = flat_map (λ kind. places kind limits [] (1, block)) kinds

unfoldable pub delete_refusals : Limits → Schema → List ℕ → List Cond → List Refusal
delete_refusals limits schema table conditions =
    table_refusals schema table
    ++ places_of_kinds limits (looked_up schema (delete_block table conditions)) delete_kinds

unfoldable pub bound_delete : Schema → List ℕ → List Cond → Block
bound_delete schema table conditions = bound_block (looked_up schema (delete_block table conditions))
