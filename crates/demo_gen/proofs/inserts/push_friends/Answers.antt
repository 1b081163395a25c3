use Rattle.std.proofs.Common.{◌/◌, ap, append-nil, sym}
use Rattle.demo_gen.specs.Demo.{friend_at, friend_row}
use Rattle.demo_gen.proofs.Rows.{no_rows, row_written}
use Rattle.demo_gen.proofs.States.{draw_is, no_draw, state_is}
use Rattle.demo_gen.proofs.inserts.push_friends.Goals as goal

pub loop-place-init : goal.loop-place-init
loop-place-init c = (rw (no_rows (friend_at c.args.draws.now.state)) (sym (append-nil c.args.text.now)), sym (no_draw c.args.draws.now.state))

pub loop-place-preserved : goal.loop-place-preserved
loop-place-preserved c =
    let first = c.args.draws.now.state in
    let drew = draw_is first c.loop-place.place 2000 _ c.below.result c.loop-place.invariant.1 c.below.ensures.number in (
      row_written (friend_at first) c.loop-place.place c.args.text.now c.loop-place.text _ _ _ c.loop-place.invariant.0 c.in_ok-push_separator.ensures
          c.in_ok-push_friend.ensures (ap (friend_row (c.loop-place.place / 10)) drew),
      state_is first c.loop-place.place _ _ c.loop-place.invariant.1 c.below.ensures.state,
    )
