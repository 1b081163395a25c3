-- What a grouped statement is over.
--     column_in item                  the column that an item is about
--     grouped_block items keys ..     the block whose answer is cut into groups
--     IsGroupedOver items keys tree   the tree is such a block
use Rattle.std.specs.Prelude.{◌≡◌, true, false, List, ◌++◌, map}
use Rattle.sql_text.specs.declared.tree.ColumnRef.{ColumnRef}
use Rattle.sql_text.specs.declared.tree.Cond.{Cond}
use Rattle.sql_text.specs.declared.tree.FromItem.{FromItem}
use Rattle.sql_text.specs.declared.tree.BlockTree.{BlockTree}
use Rattle.sql_text.specs.declared.tree.GroupItem.{GroupItem}
use Rattle.sql_text.specs.declared.tree.GroupItem.TheVariants.{Plain, Count, Sum, Least, Greatest}
use Rattle.sql_text.specs.Trees.{Tree, Block}

abbrev pub column_in : GroupItem → ColumnRef
column_in (Plain ref) = ref
column_in (Count ref) = ref
column_in (Sum ref) = ref
column_in (Least ref) = ref
column_in (Greatest ref) = ref

-- SELECT DISTINCT of the keys and then the columns of the items
abbrev pub grouped_block : List GroupItem → List ColumnRef → List FromItem → List Cond → BlockTree
grouped_block items keys from_items conditions = record {
  distinct = true;
  star = false;
  items = keys ++ map column_in items;
  from_items = from_items;
  conditions = conditions;
}

-- the block of these items and keys, over some FROM items and conditions
pub record IsGroupedOver (items : List GroupItem) (keys : List ColumnRef) (tree : Tree) : Type 0 where
  pub from_items : List FromItem
  pub conditions : List Cond
  pub is_block : tree ≡ Block (grouped_block items keys from_items conditions)
