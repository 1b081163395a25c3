use Rattle.std.proofs.Common.{ℕ, get_or, ◌∙◌, ap, sym, arith, filter}
use Rattle.beas_core.specs.declared.value.Value.{Value}
use Rattle.beas_core.specs.Types.{Row}
use Rattle.beas_core.specs.Order.{value_cmp}
use Rattle.beas_core.specs.Full.{sign_holds}
use Rattle.beas_core.specs.Coverage.{place_class}
use Rattle.plan_ops.specs.Over.{set_of}
use Rattle.plan_ops.specs.Places.{place_of}
use Rattle.plan_ops.proofs.PlaceFacts.{place-le}
use Rattle.plan_ops.proofs.MeetFacts.{left_open, fixed_side, pair_side, right_open}
use Rattle.plan_ops.proofs.keeping.keep_meeting.Goals as goal

pub returns-then-left-classes : goal.returns-then-left-classes
returns-then-left-classes c = left_open c.args.block.now (set_of c.args.block.now c.args.classes.now) c.args.classes.now c.requires.classes
    c.args.rows.now c.requires.widths c.args.comparison.now (sym c.position_among-left.ensures ∙ c.if-left-classes.true)

pub returns-in-Fixed : goal.returns-in-Fixed
returns-in-Fixed c =
    let at = place_of c.args.classes.now (place_class c.args.block.now c.args.comparison.now.left) in
    let sorted = λ (n : ℕ) (z : Value). filter (λ (row : Row). sign_holds c.args.comparison.now.sign (value_cmp (get_or row n z) c.in-Fixed.value))
    c.args.rows.now in
    let few = place-le c.args.classes.now (place_class c.args.block.now c.args.comparison.now.left) in
    let is = c.position_among-left.ensures in
    let inside = c.if-left-classes.false in
    c.keep_fixed.ensures
    ∙ ap (λ n. sorted n c.args.zero.now) c.position_among-left.ensures
    ∙ ap (sorted at) c.requires.zero
    ∙ fixed_side c.args.block.now (set_of c.args.block.now c.args.classes.now) c.args.classes.now c.requires.classes
    c.args.rows.now c.requires.widths c.args.comparison.now c.in-Fixed.value c.in-Fixed.is (omega (arith, few, is, inside))

pub returns-then-right-classes : goal.returns-then-right-classes
returns-then-right-classes c =
    let at = place_of c.args.classes.now (place_class c.args.block.now c.args.comparison.now.left) in
    let to = place_of c.args.classes.now (place_class c.args.block.now c.in-At.place) in
    let sorted = λ (n m : ℕ) (z : Value). filter (λ (row : Row). sign_holds c.args.comparison.now.sign (value_cmp (get_or row n z) (get_or row m z)))
    c.args.rows.now in
    let few = place-le c.args.classes.now (place_class c.args.block.now c.args.comparison.now.left) in
    let is = c.position_among-left.ensures in
    let inside = c.if-left-classes.false in
    let is_right = c.position_among-right.ensures in
    let within = c.if-right-classes.true in
    c.keep_pair.ensures
    ∙ ap (λ n. sorted n c.position_among-right.result c.args.zero.now) c.position_among-left.ensures
    ∙ ap (λ n. sorted at n c.args.zero.now) c.position_among-right.ensures
    ∙ ap (sorted at to) c.requires.zero
    ∙ pair_side c.args.block.now (set_of c.args.block.now c.args.classes.now) c.args.classes.now c.requires.classes
    c.args.rows.now c.requires.widths c.args.comparison.now c.in-At.place c.in-At.is (omega (arith, few, is, inside)) (omega (arith, is_right, within))

pub returns-else-right-classes : goal.returns-else-right-classes
returns-else-right-classes c =
    let few = place-le c.args.classes.now (place_class c.args.block.now c.in-At.place) in
    let is_right = c.position_among-right.ensures in
    let outside = c.if-right-classes.false in
    right_open c.args.block.now (set_of c.args.block.now c.args.classes.now) c.args.classes.now c.requires.classes
    c.args.rows.now c.requires.widths c.args.comparison.now c.in-At.place c.in-At.is (omega (arith, few, is_right, outside))
