-- The tree of a node, without its boxes.
use Rattle.std.specs.Prelude.{ℕ, ◌+◌, max}
use Rattle.sql_text.specs.Trees.{Tree, Block, Union, Except}
use Rattle.sql_text.specs.declared.tree.SelectNode.{SelectNode}
use Rattle.sql_text.specs.declared.tree.SelectNode.TheVariants as node

abbrev pub tree_of : SelectNode → Tree
tree_of (node.Block b) = Block b
tree_of (node.Union left right) = Union left.value right.value
tree_of (node.Except left right) = Except left.value right.value

abbrev pub height : Tree → ℕ
height (Block b) = 0
height (Union left right) = max (height left) (height right) + 1
height (Except left right) = max (height left) (height right) + 1
