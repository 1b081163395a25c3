use Rattle.std.proofs.Common.{◌<◌, length, sym, ap, ◌∙◌, arith}
use Rattle.std.specs.List.{flat_map}
use Rattle.blocked_list.proofs.Edits.{length-change}
use Rattle.blocked_list.proofs.level.LevelChunk.recount.Goals as goal

pub invariant_of-self : goal.invariant_of-self
invariant_of-self g c =
    let some : 0 < length (flat_map g.P.Chunk.items c.self.inside.chunks.items) = omega (arith, c.requires, ap length c.self.view_is) in (
      c.self.invariant.0 ∙ sym (length-change (λ item. g.T.Counted.recounted item c.args.count) (flat_map g.P.Chunk.items c.self.inside.chunks.items)
          (flat_map g.P.Chunk.items c.recount.new.chunks.items) c.args.at some c.recount.ensures.written),
      c.recount.ensures.some,
    )
