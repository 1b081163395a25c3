use Rattle.block_walk.proofs.KnownFacts.{count_read}
use Rattle.block_walk.proofs.known.Known.count.Goals as goal

pub returns : goal.returns
returns c = count_read c.args.self.now c.args.place c.index.result.now c.requires c.index.ensures
