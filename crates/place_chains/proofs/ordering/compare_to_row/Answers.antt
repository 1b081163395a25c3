use Rattle.std.proofs.Common.{◌≡◌, ◌∙◌, min, length, sym, arith}
use Rattle.place_chains.proofs.OrderFacts.{ends}
use Rattle.place_chains.proofs.ordering.compare_to_row.Goals as goal

pub returns : goal.returns
returns g c = λ tuples reading.
    let own = c.args.own.now in
    let places = c.args.places.now in
    let at : c.loop-at.at ≡ min (length own) (length places) = omega (arith, c.loop-at.auto.at-end, c.loop-at-test.false, c.min-at-end.ensures) in
    c.cmp.ensures ∙ sym (ends own places _ c.args.row.now c.loop-at.at at) ∙ c.loop-at.invariant tuples reading
