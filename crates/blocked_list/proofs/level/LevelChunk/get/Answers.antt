use Rattle.std.proofs.Common.{◌∙◌, ap, get_or}
use Rattle.blocked_list.proofs.Edits.{got}
use Rattle.blocked_list.proofs.level.LevelChunk.get.Goals as goal

pub returns : goal.returns
returns g c =
    got g.P.Chunk.items c.self.inside.chunks.items c.deref.result.now c.args.at c.spot_of-spot.result c.index.result.now c.deref.ensures.value
    c.get.result.now c.spot_of-spot.ensures c.index.ensures c.get.ensures
    ∙ ap (λ xs. get_or xs c.args.at c.get.result.now) c.self.view_is
