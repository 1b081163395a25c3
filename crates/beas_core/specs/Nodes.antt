-- The tree of a node of a query, without its boxes.
use Rattle.std.specs.Prelude.{ℕ, ◌+◌, max}
use Rattle.beas_core.specs.Trees.{QueryTree, Single, Either, Minus}
use Rattle.beas_core.specs.declared.query.QueryNode.{QueryNode}
use Rattle.beas_core.specs.declared.query.QueryNode.TheVariants as node

abbrev pub query_tree : QueryNode → QueryTree
query_tree (node.Block b) = Single b
query_tree (node.Union left right) = Either left.value right.value
query_tree (node.Except left right) = Minus left.value right.value

abbrev pub height : QueryTree → ℕ
height (Single b) = 0
height (Either left right) = max (height left) (height right) + 1
height (Minus left right) = max (height left) (height right) + 1
