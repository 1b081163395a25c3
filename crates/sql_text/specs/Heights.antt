-- Each side of a tree is lower than the tree.
use Rattle.std.specs.Prelude.{◌≤◌, max}
use Rattle.std.proofs.Common.{arith}
use Rattle.sql_text.specs.declared.tree.SelectNode.{SelectNode}
use Rattle.sql_text.specs.declared.tree.SelectNode.TheVariants as node
use Rattle.sql_text.specs.declared.tree.SelectTree.TheDeep.{deep-SelectNode}
use Rattle.sql_text.specs.Nodes.{tree_of, height}

pub nodes_fall : (n : SelectNode) → max (deep-SelectNode n) 0 ≤ height (tree_of n)
nodes_fall (node.Block b) = omega arith
nodes_fall (node.Union l r) = omega arith
nodes_fall (node.Except l r) = omega arith
