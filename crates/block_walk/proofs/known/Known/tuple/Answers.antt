use Rattle.std.proofs.Common.{◌∙◌, ◌+◌, ◌*◌, ◌-◌, arith, ap}
use Rattle.std.proofs.lemmas.Grind.{common_steps}
use Rattle.block_walk.specs.Kept.{part}
use Rattle.block_walk.proofs.KnownFacts.{tuple_read, tuple_within}
use Rattle.block_walk.proofs.known.Known.tuple.Goals as goal

pub overflow_mul-from : goal.overflow_mul-from
overflow_mul-from c =
    let within = tuple_within c.args.self.now c.requires.known c.args.place c.index-spot.result.now c.requires.place c.index-spot.ensures c.args.at c.requires.at in
    grind (arith, common_steps, within)

pub overflow_add-from : goal.overflow_add-from
overflow_add-from c =
    let within = tuple_within c.args.self.now c.requires.known c.args.place c.index-spot.result.now c.requires.place c.index-spot.ensures c.args.at c.requires.at in
    grind (arith, common_steps, within)

pub overflow_add-result : goal.overflow_add-result
overflow_add-result c =
    let within = tuple_within c.args.self.now c.requires.known c.args.place c.index-spot.result.now c.requires.place c.index-spot.ensures c.args.at c.requires.at in
    grind (arith, common_steps, within)

pub offset_bounds-deref-from : goal.offset_bounds-deref-from
offset_bounds-deref-from c =
    let within = tuple_within c.args.self.now c.requires.known c.args.place c.index-spot.result.now c.requires.place c.index-spot.ensures c.args.at c.requires.at in
    grind (arith, common_steps, within)

pub slice_bounds-result-end : goal.slice_bounds-result-end
slice_bounds-result-end c =
    let within = tuple_within c.args.self.now c.requires.known c.args.place c.index-spot.result.now c.requires.place c.index-spot.ensures c.args.at c.requires.at in
    grind (arith, common_steps, within)

pub returns : goal.returns
returns c =
    let s = c.index-spot.result.now in
    let n = (s.from + c.args.at * s.width + s.width) - (s.from + c.args.at * s.width) in
    ap (λ vs. part vs (s.from + c.args.at * s.width) n) c.deref.ensures.value
    ∙ tuple_read c.args.self.now c.args.place s c.requires.place c.index-spot.ensures c.args.at c.requires.at n (omega arith)
