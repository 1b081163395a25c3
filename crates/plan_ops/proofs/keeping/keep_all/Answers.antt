use Rattle.std.proofs.Common.{◌≡◌, ◌∙◌, ap, sym, subst, length, All, filter, take}
use Rattle.std.specs.List.{list_all}
use Rattle.beas_core.specs.Types.{Row}
use Rattle.beas_core.specs.Valuations.{comparison_is_met, as_bindings}
use Rattle.plan_ops.specs.Over.{set_of}
use Rattle.plan_ops.proofs.MeetFacts.{kept_by_none, kept_by_item, kept_wide}
use Rattle.plan_ops.proofs.keeping.keep_all.Goals as goal

pub loop-comparison-init : goal.loop-comparison-init
loop-comparison-init c = kept_by_none c.args.block.now (set_of c.args.block.now c.args.classes.now) c.args.rows.now

pub keep_meeting-requires-clause-widths : goal.keep_meeting-requires-clause-widths
keep_meeting-requires-clause-widths c =
    let set = set_of c.args.block.now c.args.classes.now in
    subst (All (λ row. length row ≡ length c.args.classes.now)) (sym c.loop-comparison.invariant)
    (kept_wide (length c.args.classes.now)
    (λ row. list_all (comparison_is_met c.args.block.now set (as_bindings set row)) (take c.loop-comparison.comparison-index c.args.block.now.comparisons))
    c.args.rows.now c.requires.widths)

pub loop-comparison-preserved : goal.loop-comparison-preserved
loop-comparison-preserved c =
    let set = set_of c.args.block.now c.args.classes.now in
    c.keep_meeting.ensures
    ∙ ap (filter (λ (row : Row). comparison_is_met c.args.block.now set (as_bindings set row) c.comparison-item.result)) c.loop-comparison.invariant
    ∙ kept_by_item c.args.block.now set c.args.block.now.comparisons c.as_slice-comparison-items.result.now c.args.rows.now
    c.loop-comparison.comparison-index c.comparison-item.result c.as_slice-comparison-items.ensures c.loop-comparison-test.true c.comparison-item.is
