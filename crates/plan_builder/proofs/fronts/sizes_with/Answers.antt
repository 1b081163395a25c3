use Rattle.std.proofs.Common.{subst}
use Rattle.attribute_closure.specs.Uses.{as_use}
use Rattle.plan_builder.specs.Fronts.{SizesAre}
use Rattle.plan_builder.proofs.FrontFacts.{no_sizes_more, sizes_more}
use Rattle.plan_builder.proofs.fronts.sizes_with.Goals as goal

pub returns-in-None : goal.returns-in-None
returns-in-None c =
    λ start done bound sizes. no_sizes_more c.args.block.now start done (as_use c.args.found.now)
    (subst (SizesAre c.args.block.now start done) c.in-None.is sizes)

pub returns-in-Some : goal.returns-in-Some
returns-in-Some c =
    λ start done bound sizes. sizes_more c.args.block.now start done (as_use c.args.found.now) c.args.set.now c.in-Some.sizes c.adds.result
    c.with_step.result bound c.adds.ensures (subst (SizesAre c.args.block.now start done) c.in-Some.is sizes) c.with_step.ensures.sizes
    c.with_step.ensures.small
