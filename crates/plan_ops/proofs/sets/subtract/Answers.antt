use Rattle.std.proofs.Common.{subst, sym, ◌∙◌}
use Rattle.beas_core.specs.Full.{set_difference}
use Rattle.plan_ops.proofs.MergeFacts.{Turn, after_kept, after_dropped}
use Rattle.plan_ops.proofs.sets.subtract.Goals as goal

pub loop-row-preserved-in-Continue-1 : goal.loop-row-preserved-in-Continue-1
loop-row-preserved-in-Continue-1 c =
    let left = c.loop-row.left.items in
    let row = c.in-Some.row in
    let rest = c.pop_front.new.self.items in
    let from = c.rows_from-others.result.now in
    let all = set_difference c.args.left c.args.right in
    let turn = after_kept c.loop-row.rows all left c.loop-row.others.now from row rest c.loop-row.invariant c.in-Some.ensures.items
    c.rows_from-others.ensures (sym c.begins.ensures ∙ c.if-not-begins.true) in
    subst (λ rows. Turn rows rest from all) (sym c.in_ok-push.ensures.ok) turn

pub loop-row-preserved : goal.loop-row-preserved
loop-row-preserved c =
    let left = c.loop-row.left.items in
    let row = c.in-Some.row in
    let rest = c.pop_front.new.self.items in
    let from = c.rows_from-others.result.now in
    let all = set_difference c.args.left c.args.right in
    after_dropped c.loop-row.rows all left c.loop-row.others.now from row rest c.loop-row.invariant c.in-Some.ensures.items
    c.rows_from-others.ensures (sym c.begins.ensures ∙ c.if-not-begins.false)
