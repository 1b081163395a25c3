use Rattle.std.proofs.Common.{◌∙◌}
use Rattle.name_resolution.proofs.JoinedFacts.{joins_both}
use Rattle.name_resolution.proofs.binding.+join_blocks.Goals as goal

pub join_sides-returns-clause-sides : goal.join_sides-returns-clause-sides
join_sides-returns-clause-sides t c = λ front bind is.
    let both = joins_both c.args.left.now c.args.right.now c.args.blocks.now.items c.join_blocks.new.blocks.items c.join_blocks-2.new.blocks.items
    c.in_ok-join_blocks-2.field-0 c.in_ok-join_blocks.field-0 c.in_ok-join_blocks.ensures.query c.in_ok-join_blocks-2.ensures.query front bind is in
    (both.0, c.in_ok-left.ensures.ok ∙ both.1, c.in_ok-right.ensures.ok ∙ both.2)
