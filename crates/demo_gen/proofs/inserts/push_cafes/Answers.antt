use Rattle.std.proofs.Common.{ap, append-nil, sym}
use Rattle.demo_gen.specs.Demo.{cafe_at, cafe_row}
use Rattle.demo_gen.proofs.Rows.{no_rows, row_written}
use Rattle.demo_gen.proofs.States.{draw_is, no_draw, state_is}
use Rattle.demo_gen.proofs.inserts.push_cafes.Goals as goal

pub loop-cid-init : goal.loop-cid-init
loop-cid-init c = (rw (no_rows (cafe_at c.args.draws.now.state)) (sym (append-nil c.args.text.now)), sym (no_draw c.args.draws.now.state))

pub loop-cid-preserved : goal.loop-cid-preserved
loop-cid-preserved c =
    let first = c.args.draws.now.state in
    let drew = draw_is first c.loop-cid.cid 10 _ c.below.result c.loop-cid.invariant.1 c.below.ensures.number in (
      row_written (cafe_at first) c.loop-cid.cid c.args.text.now c.loop-cid.text _ _ _ c.loop-cid.invariant.0 c.in_ok-push_separator.ensures
          c.in_ok-push_cafe.ensures (ap (cafe_row c.loop-cid.cid) drew),
      state_is first c.loop-cid.cid _ _ c.loop-cid.invariant.1 c.below.ensures.state,
    )
