use Rattle.beas_core.specs.Shapes.{BlockIsWellFormed}
use Rattle.plan_builder.proofs.PreparationFacts.{lent_all}
use Rattle.plan_builder.proofs.uncovered.first_lacking.Goals as goal

pub reason_at-requires : goal.reason_at-requires
reason_at-requires c =
    lent_all c.args.blocks.now c.loop-place.place c.index-blocks-place.result c.loop-place-test.true c.index-blocks-place.is BlockIsWellFormed
    c.requires.shapes
