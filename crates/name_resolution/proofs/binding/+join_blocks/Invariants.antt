use Rattle.std.proofs.Common.{◌+◌, ◌*◌}
use Rattle.std.specs.Prelude.{max}
use Rattle.sql_text.specs.Nodes.{height}
use Rattle.name_resolution.proofs.binding.+join_blocks.Given as goal

abbrev pub decreases-join_sides : goal.decreases-join_sides
decreases-join_sides l = 2 * max (height l.left.now) (height l.right.now) + 1

abbrev pub decreases-join_blocks : goal.decreases-join_blocks
decreases-join_blocks l = 2 * height l.tree.now
