use Rattle.std.proofs.Common.{sym, subst, ap, length, arith}
use Rattle.std.specs.Ordering.{nat_cmp}
use Rattle.beas_core.specs.Sets.{IsInOrder}
use Rattle.plan_ops.specs.Over.{set_of}
use Rattle.plan_ops.proofs.BoundSets.{counted, few_classes}
use Rattle.plan_ops.proofs.PlaceFacts.{classes_rise, place-le}
use Rattle.plan_ops.proofs.places.column_in.Goals as goal

pub position_in-requires : goal.position_in-requires
position_in-requires c = subst (IsInOrder nat_cmp) (sym c.requires) (classes_rise (set_of c.args.block.now c.args.classes.now))

pub overflow_cast-result : goal.overflow_cast-result
overflow_cast-result c =
    let few = few_classes (set_of c.args.block.now c.args.classes.now) in
    let count = counted c.args.block.now c.args.classes.now in
    let are = ap length c.requires in
    let le = place-le c.args.classes.now c.args.class in
    let is = c.position_in.ensures in
    let classes = c.recall_classes.ensures in
    omega (arith, few, count, are, le, is, classes)
