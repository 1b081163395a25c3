-- Each side of a query's tree is lower than the tree.
use Rattle.std.specs.Prelude.{◌≤◌, max}
use Rattle.std.proofs.Common.{arith}
use Rattle.beas_core.specs.declared.query.QueryNode.{QueryNode}
use Rattle.beas_core.specs.declared.query.QueryNode.TheVariants as node
use Rattle.beas_core.specs.declared.query.Query.TheDeep.{deep-QueryNode}
use Rattle.beas_core.specs.Nodes.{query_tree, height}

pub nodes_fall : (n : QueryNode) → max (deep-QueryNode n) 0 ≤ height (query_tree n)
nodes_fall (node.Block b) = omega arith
nodes_fall (node.Union l r) = omega arith
nodes_fall (node.Except l r) = omega arith
