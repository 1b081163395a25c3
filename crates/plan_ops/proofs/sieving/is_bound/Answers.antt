use Rattle.std.proofs.Common.{◌∙◌, ap, arith, length, sym, subst}
use Rattle.std.proofs.lemmas.Bool.{ltb-true}
use Rattle.beas_core.specs.Coverage.{has, place_class}
use Rattle.beas_core.specs.Valuations.{operand_is_bound}
use Rattle.beas_core.proofs.MemberTests.{and_both}
use Rattle.plan_ops.specs.Over.{set_of}
use Rattle.plan_ops.proofs.PlaceFacts.{place-le}
use Rattle.plan_ops.proofs.SieveFacts.{bound_there}
use Rattle.plan_ops.proofs.sieving.is_bound.Goals as goal

pub returns-in-Fixed : goal.returns-in-Fixed
returns-in-Fixed c = λ t.
    let normal = c.args.block.now in
    let set = set_of normal c.args.classes.now in
    let left = place_class normal c.args.comparison.now.left in
    let le = place-le c.args.classes.now left in
    let at = c.position_among.ensures in
    let ne = c.if-position_among-classes.false in
    and_both (has set left) (operand_is_bound normal set c.args.comparison.now.right)
    (bound_there normal c.args.classes.now c.requires.classes left (omega (arith, le, at, ne))) (ap (operand_is_bound normal set) c.in-Fixed.is)

pub returns-in-At : goal.returns-in-At
returns-in-At c = λ t.
    let normal = c.args.block.now in
    let set = set_of normal c.args.classes.now in
    let left = place_class normal c.args.comparison.now.left in
    let right = place_class normal c.in-At.place in
    let le = place-le c.args.classes.now left in
    let at = c.position_among.ensures in
    let ne = c.if-position_among-classes.false in
    let below = ltb-true c.position_among-in-At.result (length c.args.classes.now) t in
    let other = c.position_among-in-At.ensures in
    and_both (has set left) (operand_is_bound normal set c.args.comparison.now.right)
    (bound_there normal c.args.classes.now c.requires.classes left (omega (arith, le, at, ne)))
    (ap (operand_is_bound normal set) c.in-At.is ∙ bound_there normal c.args.classes.now c.requires.classes right (omega (arith, below, other)))
