use Rattle.std.proofs.Common.{refl, set}
use Rattle.block_walk.proofs.OrderedFacts.{keeps_after, keeps_inserted}
use Rattle.block_walk.proofs.ordered.OrderedKeys.put.Goals as goal

pub returns : goal.returns
returns c =
    let old = c.args.self.now.steps.items in
    let reached = c.reach.new.steps.items in
    let step = c.args.step in
    let key = c.args.key.now in
    let new = set reached step c.insert.new.self in
    keeps_after old reached new step key c.args.entry c.in_ok-reach.ensures.same
    (keeps_inserted reached new step key c.args.entry c.in_ok-key.key c.index_mut.result.now c.insert.new.self c.in_ok-reach.ensures.there
    c.index_mut.ensures.value c.in_ok-key.ensures c.in_ok-insert.ensures.entries refl)
