-- What a grouped statement makes of the query of its keys and of the columns of its items, in this order.
--     first_block query                            the block of a query of one block
--     grouping_refusal schema block keys items     why its answer can't be cut into groups by the first so many columns of its output
--     item_name item, fold_in item                 what an item is called in the header, and what it makes of a group
--     groups_over keys items rows                  the rows of the groups: for each key, in order, a cell for each item
use Rattle.std.specs.Prelude.{◌≡◌, ◌≤◌, ◌+◌, ◌&&◌, Bool, true, false, not, ℕ, List, [], ◌∷◌, length, map, take, drop, find, slice_index_or, codes, Option, option_map}
use Rattle.std.specs.List.{list_any, zip}
use Rattle.std.specs.Option.{option_or}
use Rattle.aggregate.specs.declared.cell.Cell.{Cell}
use Rattle.aggregate.specs.declared.cell.Fold.{Fold}
use Rattle.aggregate.specs.declared.cell.Fold.TheVariants as folds
use Rattle.aggregate.specs.Grouping.{grouped_rows}
use Rattle.beas_core.specs.declared.query.Block.{Block}
use Rattle.beas_core.specs.declared.query.Place.{Place}
use Rattle.beas_core.specs.declared.refusal.Refusal.{Refusal}
use Rattle.beas_core.specs.declared.refusal.Refusal.TheVariants.{NotGrouped, SumOfText}
use Rattle.beas_core.specs.declared.schema.ColType.{ColType}
use Rattle.beas_core.specs.declared.schema.ColType.TheVariants.{Integer, Words}
use Rattle.beas_core.specs.Classes.{same_place}
use Rattle.beas_core.specs.Texts.{concatenation}
use Rattle.beas_core.specs.Trees.{QueryTree, Single, Either, Minus}
use Rattle.beas_core.specs.Types.{Row}
use Rattle.catalogue.specs.Schema.{Schema, columns_at}
use Rattle.plan_builder.specs.Preparation.{atom_table}
use Rattle.sql_text.specs.declared.tree.GroupItem.{GroupItem}
use Rattle.sql_text.specs.declared.tree.GroupItem.TheVariants.{Plain, Count, Sum, Least, Greatest}
use Rattle.sql_text.specs.Grouping.{column_in}

-- of several blocks the first
abbrev pub first_block : QueryTree → Block
first_block (Single block) = block
first_block (Either left right) = first_block left
first_block (Minus left right) = first_block left

-- ---- refusals

abbrev pub is_plain : GroupItem → Bool
is_plain (Plain column) = true
is_plain (Count column) = false
is_plain (Sum column) = false
is_plain (Least column) = false
is_plain (Greatest column) = false

abbrev pub is_sum : GroupItem → Bool
is_sum (Sum column) = true
is_sum (Plain column) = false
is_sum (Count column) = false
is_sum (Least column) = false
is_sum (Greatest column) = false

abbrev pub is_text : ColType → Bool
is_text Words = true
is_text Integer = false

abbrev pub kind_at : Schema → Block → Place → ColType
kind_at schema block place =
    slice_index_or (map (λ c. c.kind) (columns_at schema (atom_table block place.atom))) place.column.0 Integer

-- an item with the place of its column
abbrev pub PlacedItem : Type 0
PlacedItem = GroupItem × Place

-- the keys stand first in the output, and the columns of the items behind them
abbrev pub key_places : Block → ℕ → List Place
key_places block keys = take keys block.output

abbrev pub placed_items : Block → ℕ → List GroupItem → List PlacedItem
placed_items block keys items = zip items (drop keys block.output)

-- a plain item whose column isn't a key, under whatever name
abbrev pub is_ungrouped : List Place → PlacedItem → Bool
is_ungrouped keys i = is_plain i.0 && not (list_any (same_place i.1) keys)

abbrev pub is_text_sum : Schema → Block → PlacedItem → Bool
is_text_sum schema block i = is_sum i.0 && is_text (kind_at schema block i.1)

abbrev pub name_in : PlacedItem → List ℕ
name_in i = (column_in i.0).column

abbrev pub ungrouped_refusal : Block → ℕ → List GroupItem → Option Refusal
ungrouped_refusal block keys items =
    option_map (λ i. NotGrouped (name_in i)) (find (is_ungrouped (key_places block keys)) (placed_items block keys items))

abbrev pub text_sum_refusal : Schema → Block → ℕ → List GroupItem → Option Refusal
text_sum_refusal schema block keys items =
    option_map (λ i. SumOfText (name_in i)) (find (is_text_sum schema block) (placed_items block keys items))

abbrev pub grouping_refusal : Schema → Block → ℕ → List GroupItem → Option Refusal
grouping_refusal schema block keys items =
    option_or (ungrouped_refusal block keys items) (text_sum_refusal schema block keys items)

-- the query is one block, whose output is so many keys and a column for each of so many items
pub record HasOutputs (keys items : ℕ) (query : QueryTree) : Type 0 where
  pub block : Block
  pub is_block : query ≡ Single block
  pub outputs : length block.output ≡ keys + items
  pub few : keys + items ≤ 1024

-- ---- the answer

abbrev pub in_brackets : List ℕ → List ℕ → List ℕ
in_brackets word name = concatenation (word ∷ codes "(" ∷ name ∷ codes ")" ∷ [])

abbrev pub item_name : GroupItem → List ℕ
item_name (Plain column) = column.column
item_name (Count column) = in_brackets (codes "count") column.column
item_name (Sum column) = in_brackets (codes "sum") column.column
item_name (Least column) = in_brackets (codes "min") column.column
item_name (Greatest column) = in_brackets (codes "max") column.column

abbrev pub fold_in : GroupItem → Fold
fold_in (Plain column) = folds.Plain
fold_in (Count column) = folds.Count
fold_in (Sum column) = folds.Sum
fold_in (Least column) = folds.Least
fold_in (Greatest column) = folds.Greatest

abbrev pub groups_over : ℕ → List GroupItem → List Row → List (List Cell)
groups_over keys items rows = grouped_rows keys (map fold_in items) rows
