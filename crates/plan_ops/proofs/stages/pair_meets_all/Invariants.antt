use Rattle.std.proofs.Common.{◌≡◌, true, take}
use Rattle.std.specs.List.{list_all}
use Rattle.beas_core.specs.Valuations.{as_bindings, comparison_is_met}
use Rattle.plan_ops.specs.Joins.{joined_by}
use Rattle.plan_ops.specs.Over.{set_of}
use Rattle.plan_ops.proofs.stages.pair_meets_all.Given as goal

abbrev pub invariant-loop-i : goal.invariant-loop-i
invariant-loop-i l =
    let join = l.stage.join in
    let set = set_of l.block join.classes in
    list_all (comparison_is_met l.block set (as_bindings set (joined_by join.sources.items l.row l.tuple))) (take l.i l.block.comparisons) ≡ true
