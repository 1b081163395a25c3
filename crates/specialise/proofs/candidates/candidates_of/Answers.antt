use Rattle.std.proofs.Common.{◌∙◌, map}
use Rattle.attribute_closure.specs.Uses.{as_use}
use Rattle.specialise.proofs.Asked.{listed_is}
use Rattle.specialise.proofs.candidates.candidates_of.Goals as goal

pub returns : goal.returns
returns c = λ accesses same_uses same_cover.
    listed_is accesses c.args.block.now c.args.normal.now c.requires.normal c.args.cover.now c.deref.result.now (map as_use c.args.found.now) same_uses same_cover
    (c.deref.ensures.value ∙ c.in_ok-asked.ensures) c.in_ok-open_candidates.field-0 c.in_ok-open_candidates.ensures
