use Rattle.std.proofs.Common.{◌∙◌, ap, sym, arith, length, get_or, pos}
use Rattle.std.proofs.lemmas.List.{length-map}
use Rattle.beas_core.specs.declared.value.Value.TheVariants.{Int}
use Rattle.beas_core.specs.Order.{value_cmp}
use Rattle.beas_core.specs.Full.{sign_holds}
use Rattle.beas_core.specs.Coverage.{place_class}
use Rattle.plan_ops.specs.Comparing.{side_at}
use Rattle.plan_ops.specs.Joins.{at_place, joined_by}
use Rattle.plan_ops.specs.Places.{place_of}
use Rattle.plan_ops.proofs.PlaceFacts.{place-le}
use Rattle.plan_ops.proofs.RowFacts.{one_left_open, one_fixed, one_pair, one_right_open}
use Rattle.plan_ops.proofs.stages.pair_meets.Goals as goal

pub returns-then-sides-bound : goal.returns-then-sides-bound
returns-then-sides-bound c =
    let cs = c.args.join.now.classes in
    let v = joined_by c.args.join.now.sources.items c.args.row.now c.args.tuple.now in
    let wide = length-map c.args.join.now.sources.items (at_place c.args.row.now c.args.tuple.now) ∙ c.requires.sources in
    one_left_open c.args.block.now cs c.requires.classes v wide c.args.comparison.now
    (sym (ap (λ s. s.left) c.requires.sides) ∙ c.if-sides-bound.true ∙ c.len-bound.ensures)

pub joined_value-value-requires-clause-column : goal.joined_value-value-requires-clause-column
joined_value-value-requires-clause-column c =
    let le = place-le c.args.join.now.classes (place_class c.args.block.now c.args.comparison.now.left) in
    let e = ap (λ s. s.left) c.requires.sides in
    let n = c.if-sides-bound.false in
    let s = c.requires.sources in
    let b = c.len-bound.ensures in
    omega (arith, le, e, n, s, b)

pub returns-then-sides-bound-2 : goal.returns-then-sides-bound-2
returns-then-sides-bound-2 c =
    let cs = c.args.join.now.classes in
    let v = joined_by c.args.join.now.sources.items c.args.row.now c.args.tuple.now in
    let wide = length-map c.args.join.now.sources.items (at_place c.args.row.now c.args.tuple.now) ∙ c.requires.sources in
    let right = ap (λ s. s.right) c.requires.sides ∙ ap (side_at c.args.block.now cs) c.in-At.is in
    one_right_open c.args.block.now cs c.requires.classes v wide c.args.comparison.now c.in-At.field-0 c.in-At.is
    (sym right ∙ c.if-sides-bound-2.true ∙ c.len-bound.ensures)

pub joined_value-other-requires-clause-column : goal.joined_value-other-requires-clause-column
joined_value-other-requires-clause-column c =
    let le = place-le c.args.join.now.classes (place_class c.args.block.now c.in-At.field-0) in
    let e = ap (λ s. s.right) c.requires.sides ∙ ap (side_at c.args.block.now c.args.join.now.classes) c.in-At.is in
    let n = c.if-sides-bound-2.false in
    let s = c.requires.sources in
    let b = c.len-bound.ensures in
    omega (arith, le, e, n, s, b)

pub returns-in-Fixed : goal.returns-in-Fixed
returns-in-Fixed c =
    let cs = c.args.join.now.classes in
    let v = joined_by c.args.join.now.sources.items c.args.row.now c.args.tuple.now in
    let wide = length-map c.args.join.now.sources.items (at_place c.args.row.now c.args.tuple.now) ∙ c.requires.sources in
    let sign = c.args.comparison.now.sign in
    let left = ap (λ s. s.left) c.requires.sides in
    let le = place-le cs (place_class c.args.block.now c.args.comparison.now.left) in
    let n = c.if-sides-bound.false in
    let s = c.len-bound.ensures in
    c.sign_holds.ensures ∙ ap (sign_holds sign) c.compare.ensures
    ∙ ap (λ x. sign_holds sign (value_cmp x c.in-Fixed.fixed)) (c.joined_value-value.ensures ∙ ap (λ k. get_or v k (Int (pos 0))) left)
    ∙ one_fixed c.args.block.now cs c.requires.classes v wide c.args.comparison.now c.in-Fixed.fixed c.in-Fixed.is (omega (arith, left, le, n, s))

pub returns-else-sides-bound-2 : goal.returns-else-sides-bound-2
returns-else-sides-bound-2 c =
    let cs = c.args.join.now.classes in
    let v = joined_by c.args.join.now.sources.items c.args.row.now c.args.tuple.now in
    let wide = length-map c.args.join.now.sources.items (at_place c.args.row.now c.args.tuple.now) ∙ c.requires.sources in
    let sign = c.args.comparison.now.sign in
    let class = place_class c.args.block.now c.args.comparison.now.left in
    let other = place_class c.args.block.now c.in-At.field-0 in
    let left = ap (λ s. s.left) c.requires.sides in
    let right = ap (λ s. s.right) c.requires.sides ∙ ap (side_at c.args.block.now cs) c.in-At.is in
    let le = place-le cs class in
    let re = place-le cs other in
    let n = c.if-sides-bound.false in
    let m = c.if-sides-bound-2.false in
    let s = c.len-bound.ensures in
    c.sign_holds-in-At.ensures ∙ ap (sign_holds sign) c.compare-in-At.ensures
    ∙ ap (λ x. sign_holds sign (value_cmp x c.joined_value-other.result.now)) (c.joined_value-value.ensures ∙ ap (λ k. get_or v k (Int (pos 0))) left)
    ∙ ap (λ x. sign_holds sign (value_cmp (get_or v (place_of cs class) (Int (pos 0))) x))
    (c.joined_value-other.ensures ∙ ap (λ k. get_or v k (Int (pos 0))) right)
    ∙ one_pair c.args.block.now cs c.requires.classes v wide c.args.comparison.now c.in-At.field-0 c.in-At.is (omega (arith, left, le, n, s))
    (omega (arith, right, re, m, s))
