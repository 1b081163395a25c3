use Rattle.place_chains.proofs.Search.{earlier_found}
use Rattle.place_chains.proofs.chains.HashChains.earlier.Goals as goal

pub returns : goal.returns
returns c =
    earlier_found c.self.inside.heads.items c.self.inside.links.items c.deref.result.now c.args.self.now c.self.invariant.0 c.deref.ensures.value
    c.self.view_is c.args.place c.index-link.result.now c.same_from.result c.requires c.index-link.ensures c.same_from.ensures
