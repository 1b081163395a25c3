use Rattle.std.proofs.Common.{sym, subst}
use Rattle.std.specs.Ordering.{nat_cmp}
use Rattle.beas_core.specs.Sets.{IsInOrder}
use Rattle.plan_ops.specs.Over.{set_of}
use Rattle.plan_ops.proofs.PlaceFacts.{classes_rise}
use Rattle.plan_ops.proofs.keeping.position_among.Goals as goal

pub position_in-requires : goal.position_in-requires
position_in-requires c = subst (IsInOrder nat_cmp) (sym c.requires) (classes_rise (set_of c.args.block.now c.args.classes.now))
