use Rattle.std.proofs.Common.{◌≡◌, ◌∙◌, ◌*◌, ◌+◌, ap, append-nil, arith, refl, sym}
use Rattle.demo_gen.specs.Draws.{state_after}
use Rattle.demo_gen.proofs.States.{draw_is, no_draw, state_is}
use Rattle.demo_gen.proofs.Written.{no_queries, query_written}
use Rattle.demo_gen.proofs.queries.push_queries.Goals as goal

pub loop-query-init : goal.loop-query-init
loop-query-init c = (rw (no_queries c.args.draws.now.state) (sym (append-nil c.args.text.now)), sym (no_draw c.args.draws.now.state))

pub loop-query-preserved : goal.loop-query-preserved
loop-query-preserved c =
    let first = c.args.draws.now.state in
    let n = c.loop-query.query in
    let two : 3 * n + 1 + 1 ≡ 3 * n + 2 = omega arith in
    let three : 3 * n + 2 + 1 ≡ 3 * (n + 1) = omega arith in
    let person = draw_is first (3 * n) 2000 _ c.below-person.result c.loop-query.invariant.1 c.below-person.ensures.number in
    let once = state_is first (3 * n) _ _ c.loop-query.invariant.1 c.below-person.ensures.state in
    let month = draw_is first (3 * n + 1) 12 _ c.below-month.result once c.below-month.ensures.number in
    let twice = state_is first (3 * n + 1) _ _ once c.below-month.ensures.state ∙ ap (state_after first) two in
    let city = draw_is first (3 * n + 2) 10 _ c.below-city.result twice c.below-city.ensures.number in (
      query_written first n c.args.text.now c.loop-query.text _ _ c.loop-query.invariant.0 c.in_ok-push_query.ensures (rw (person, month, city) refl),
      state_is first (3 * n + 2) _ _ twice c.below-city.ensures.state ∙ ap (state_after first) three,
    )
