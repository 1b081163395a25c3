use Rattle.std.proofs.Common.{◌∙◌, sym}
use Rattle.plan_ops.proofs.RowFacts.{after_classes, led, not_led, pair_within, sources_counted}
use Rattle.plan_ops.proofs.stages.leads.Goals as goal

pub pair_fits-requires : goal.pair_fits-requires
pair_fits-requires c = pair_within c.args.block.now c.args.stage.now c.requires.stage c.args.row.now c.args.tuple.now c.requires.pair

pub returns-then-not-pair_fits : goal.returns-then-not-pair_fits
returns-then-not-pair_fits c = not_led c.args.block.now c.args.stage.now c.requires.stage c.args.row.now c.args.tuple.now c.requires.pair
    (sym c.pair_fits.ensures ∙ c.if-not-pair_fits.true)

pub pair_meets_all-requires-clause-classes : goal.pair_meets_all-requires-clause-classes
pair_meets_all-requires-clause-classes c = after_classes c.args.block.now c.args.stage.now c.requires.stage

pub pair_meets_all-requires-clause-within : goal.pair_meets_all-requires-clause-within
pair_meets_all-requires-clause-within c = pair_within c.args.block.now c.args.stage.now c.requires.stage c.args.row.now c.args.tuple.now c.requires.pair

pub pair_meets_all-requires-clause-sources : goal.pair_meets_all-requires-clause-sources
pair_meets_all-requires-clause-sources c = sources_counted c.args.block.now c.args.stage.now c.requires.stage

pub pair_meets_all-requires-clause-sides : goal.pair_meets_all-requires-clause-sides
pair_meets_all-requires-clause-sides c = c.requires.stage.sides_are

pub returns : goal.returns
returns c = c.pair_meets_all.ensures ∙ led c.args.block.now c.args.stage.now c.requires.stage c.args.row.now c.args.tuple.now c.requires.pair
    (sym c.pair_fits.ensures ∙ c.if-not-pair_fits.false)
