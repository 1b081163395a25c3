use Rattle.std.proofs.Common.{rules, ◌≡◌, ◌<◌, ◌-◌, ◌∙◌, length, sym, subst, arith}
use Rattle.beas_core.specs.Valuations.{output_row}
use Rattle.beas_core.proofs.Sets.{Has, Has-get_or}
use Rattle.plan_ops.specs.Stages.{bound_with, joined_row, set_before, use_at}
use Rattle.block_walk.proofs.SameFacts.{same_again}
use Rattle.block_walk.proofs.walking.push_output_once.Goals as goal

pub returns-then-is_joined_output : goal.returns-then-is_joined_output
returns-then-is_joined_output c =
    let block = c.args.block.now in
    let u = use_at c.args.stage.now in
    let set = set_before block c.args.stage.now in
    let out = output_row block (bound_with block u set) (joined_row block u set c.args.row.now c.args.tuple.now) in
    let rows = c.as_slice-rows.result.now in
    let last = c.index-rows-count.result in
    let some : 0 < length rows = search rules in
    let here : Has rows last = subst (Has rows) (sym c.index-rows-count.is) (Has-get_or rows (length rows - 1) last (omega (arith, some))) in
    let is : last ≡ out = sym c.as_slice.ensures ∙ (c.is_joined_output.ensures block c.requires.stage c.requires.pair).0 c.if-is_joined_output.true in
    same_again c.args.through.now out (subst (λ ys. Has ys out) c.as_slice-rows.ensures (subst (Has rows) is here))
