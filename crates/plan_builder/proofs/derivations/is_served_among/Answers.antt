use Rattle.std.proofs.Common.{◌∙◌, sym}
use Rattle.plan_builder.proofs.Turns.{among_here}
use Rattle.plan_builder.proofs.derivations.is_served_among.Goals as goal

pub returns-then-holds_needed : goal.returns-then-holds_needed
returns-then-holds_needed c =
    among_here c.args.block.now c.args.atom c.args.taken.now c.loop-found.found-index c.found-item.result c.loop-found-test.true c.found-item.is
    c.if-found-atom.true (sym c.holds_needed.ensures ∙ c.if-holds_needed.true)
