use Rattle.std.proofs.Common.{◌+◌, ◌*◌}
use Rattle.sql_text.specs.Nodes.{height}
use Rattle.sql_text.proofs.printing.+trees.Given as goal

abbrev pub decreases-write_operand : goal.decreases-write_operand
decreases-write_operand l = 2 * height l.right.now + 1

abbrev pub decreases-write_tree : goal.decreases-write_tree
decreases-write_tree l = 2 * height l.tree.now
