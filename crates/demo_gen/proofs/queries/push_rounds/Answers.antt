use Rattle.std.proofs.Common.{◌∙◌, ◌++◌, ◌*◌, ap, append-nil, arith, sym, ℕ}
use Rattle.std.specs.List.{flat_map}
use Rattle.demo_gen.specs.Demo.{delete_text, with_end, queries}
use Rattle.demo_gen.specs.Draws.{state_after}
use Rattle.demo_gen.proofs.States.{after_both, draw_is, no_draw, state_is}
use Rattle.demo_gen.proofs.Written.{no_rounds, round_written}
use Rattle.demo_gen.proofs.queries.push_rounds.Goals as goal

pub loop-round-init : goal.loop-round-init
loop-round-init c = (rw (no_rounds c.args.draws.now.state) (sym (append-nil c.args.text.now)), sym (no_draw c.args.draws.now.state))

pub loop-round-preserved : goal.loop-round-preserved
loop-round-preserved c =
    let first = c.args.draws.now.state in
    let n = c.loop-round.round in
    let at = c.loop-round.invariant.1 in
    let start = state_after first (31 * n) in
    let asked = c.in_ok-push_queries.ensures.draws ∙ ap (λ (s : ℕ). state_after s 30) at in
    let person = draw_is start 30 2000 _ c.below.result asked c.below.ensures.number in (
      round_written first n c.args.text.now c.loop-round.text _ _ _ c.loop-round.invariant.0
          (c.in_ok-push_queries.ensures.text ∙ ap (λ (s : ℕ). c.loop-round.text ++ flat_map with_end (queries s 10)) at)
          c.in_ok-push_deletion.ensures (ap delete_text person),
      state_is start 30 _ _ asked c.below.ensures.state ∙ after_both first (31 * n) 31 ∙ ap (state_after first) (omega arith),
    )
