use Rattle.std.proofs.Common.{◌≡◌, sym, subst}
use Rattle.beas_core.specs.Types.{Use}
use Rattle.beas_core.specs.Valuations.{classes_in}
use Rattle.plan_ops.specs.Joins.{IsJoin}
use Rattle.plan_ops.specs.Over.{set_of}
use Rattle.plan_ops.proofs.RowFacts.{join_classes}
use Rattle.plan_ops.proofs.stages.stage_of.Goals as goal

pub all_sides-requires : goal.all_sides-requires
all_sides-requires c =
    let normal = c.args.block.now in
    let u : Use = record { atom = c.args.atom; access = c.args.access.now } in
    let is = subst (λ cs. IsJoin normal u cs c.in_ok-join.join) c.as_slice-before.ensures c.in_ok-join.ensures in
    subst (λ cs. cs ≡ classes_in (set_of normal cs)) (sym c.as_slice-after.ensures) (join_classes normal u c.args.from.now c.in_ok-join.join is)
