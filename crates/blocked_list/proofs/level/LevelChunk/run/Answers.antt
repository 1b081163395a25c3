use Rattle.std.proofs.Common.{subst}
use Rattle.blocked_list.specs.Runs.{IsRun}
use Rattle.blocked_list.proofs.Edits.{run_in_all}
use Rattle.blocked_list.proofs.level.LevelChunk.run.Goals as goal

pub returns : goal.returns
returns g c =
    subst (λ xs. IsRun xs c.args.at c.run.result.now) c.self.view_is
    (run_in_all g.P.Chunk.items c.self.inside.chunks.items c.deref.result.now c.args.at c.spot_of-spot.result c.index.result.now c.deref.ensures.value
    c.run.result.now c.spot_of-spot.ensures c.index.ensures c.run.ensures)
