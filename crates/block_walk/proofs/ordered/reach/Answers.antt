use Rattle.std.proofs.Common.{◌∙◌, ap}
use Rattle.block_walk.specs.Ordered.{kept_under}
use Rattle.block_walk.proofs.OrderedFacts.{same_with_empty}
use Rattle.block_walk.proofs.ordered.reach.Goals as goal

pub maps-preserved : goal.maps-preserved
maps-preserved c = λ step key.
    ap (λ ms. kept_under ms step key) c.in_ok-push.ensures.items ∙ same_with_empty c.maps.steps.items c.new.result c.new.ensures.empty step key
    ∙ c.maps.invariant step key
