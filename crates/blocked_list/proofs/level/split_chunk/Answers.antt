use Rattle.std.proofs.Common.{◌<◌, length, ap, sym, ◌∙◌, arith}
use Rattle.std.specs.List.{flat_map}
use Rattle.blocked_list.proofs.Joined.{same_in, split_in}
use Rattle.blocked_list.proofs.level.split_chunk.Goals as goal

pub returns-in-Ok-clause-same : goal.returns-in-Ok-clause-same
returns-in-Ok-clause-same g c =
    let items = g.P.Chunk.items in
    let xs = c.reserve.new.self.items in
    let within : c.args.at < length xs = omega (arith, c.requires.within, ap length c.reserve.ensures.items) in
    ap (flat_map items) c.in-Ok.ensures.items
    ∙ split_in items xs c.args.at c.split.new.self c.in-Some.back c.index_mut-chunk.result.now within
    (ap items (sym c.index_mut-chunk.ensures.value) ∙ c.in-Some.ensures.same)
    ∙ ap (flat_map items) c.reserve.ensures.items

pub returns-in-None-clause-same : goal.returns-in-None-clause-same
returns-in-None-clause-same g c =
    let items = g.P.Chunk.items in
    let xs = c.reserve.new.self.items in
    let within : c.args.at < length xs = omega (arith, c.requires.within, ap length c.reserve.ensures.items) in
    same_in items xs c.args.at c.split.new.self c.index_mut-chunk.result.now within (c.in-None.ensures ∙ ap items c.index_mut-chunk.ensures.value)
    ∙ ap (flat_map items) c.reserve.ensures.items
