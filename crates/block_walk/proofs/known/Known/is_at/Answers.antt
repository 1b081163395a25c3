use Rattle.std.proofs.Common.{◌∙◌, ◌+◌, ◌-◌, arith, ap}
use Rattle.std.specs.Cmp.Lexicographic.{pointwise}
use Rattle.std.specs.Ordering.{eq_by_cmp}
use Rattle.beas_core.specs.Order.{value_cmp}
use Rattle.block_walk.specs.Kept.{part}
use Rattle.block_walk.proofs.KnownFacts.{key_decided}
use Rattle.block_walk.proofs.known.Known.is_at.Goals as goal

pub returns-then-spot-step : goal.returns-then-spot-step
returns-then-spot-step c =
    let known = c.args.self.now in
    let s = c.index-spot.result.now in
    let n = (s.from + s.key_width) - s.from in
    key_decided known c.args.place s c.requires.place c.index-spot.ensures c.args.step c.args.key.now c.if-spot-step.true n (omega arith) c.eq.result
    (c.eq.ensures ∙ ap (λ vs. pointwise (eq_by_cmp value_cmp) (part vs s.from n) c.args.key.now) c.deref.ensures.value)
