use Rattle.std.proofs.Common.{◌≡◌, ◌<◌, length, arith}
use Rattle.place_chains.proofs.Search.{latest_found}
use Rattle.place_chains.proofs.chains.HashChains.latest.Goals as goal

pub returns : goal.returns
returns c =
    let heads = c.self.inside.heads in
    let count = c.len-count.result in
    let some : 0 < count = omega arith in
    let wide : count ≡ length heads.items = omega (arith, heads.ok.0, c.len-count.ensures) in
    latest_found heads.items c.self.inside.links.items c.deref.result.now c.args.self.now c.self.invariant.0 c.deref.ensures.value c.self.view_is
    c.args.hash c.bucket_of.result count c.index.result.now c.same_from.result some wide c.bucket_of.ensures.is c.index.ensures c.same_from.ensures
