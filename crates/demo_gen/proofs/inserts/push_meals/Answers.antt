use Rattle.std.proofs.Common.{◌∙◌, ◌/◌, ◌*◌, ◌+◌, ap, ap₂, append-nil, arith, sym, ℕ}
use Rattle.demo_gen.specs.Demo.{dine_at, dine_row}
use Rattle.demo_gen.specs.Draws.{state_after}
use Rattle.demo_gen.proofs.Rows.{no_rows, row_written}
use Rattle.demo_gen.proofs.States.{draw_is, no_draw, state_is}
use Rattle.demo_gen.proofs.inserts.push_meals.Goals as goal

pub loop-place-init : goal.loop-place-init
loop-place-init c = (rw (no_rows (dine_at c.args.draws.now.state)) (sym (append-nil c.args.text.now)), sym (no_draw c.args.draws.now.state))

pub loop-place-preserved : goal.loop-place-preserved
loop-place-preserved c =
    let first = c.args.draws.now.state in
    let n = c.loop-place.place in
    let cid = draw_is first (2 * n) 500 _ c.below-cid.result c.loop-place.invariant.1 c.below-cid.ensures.number in
    let between = state_is first (2 * n) _ _ c.loop-place.invariant.1 c.below-cid.ensures.state in
    let month = draw_is first (2 * n + 1) 12 _ c.below-month.result between c.below-month.ensures.number in (
      row_written (dine_at first) n c.args.text.now c.loop-place.text _ _ _ c.loop-place.invariant.0 c.in_ok-push_separator.ensures
          c.in_ok-push_meal.ensures (ap₂ (λ (d m : ℕ). dine_row (n / 5) d (1 + m)) cid month),
      state_is first (2 * n + 1) _ _ between c.below-month.ensures.state ∙ ap (state_after first) (omega arith),
    )
