use Rattle.std.proofs.Common.{◌<◌, ◌∙◌, ap, sym, subst, arith, length, map, rules}
use Rattle.beas_core.specs.Full.{same_value}
use Rattle.beas_core.specs.Types.{Binding}
use Rattle.beas_core.specs.Valuations.{value_of}
use Rattle.beas_core.proofs.MemberTests.{from_not}
use Rattle.plan_ops.specs.Places.{place_of}
use Rattle.plan_ops.proofs.ConstantFacts.{all_broken, all_more, constant_there, agrees_is, from_not_false}
use Rattle.plan_ops.proofs.TableFacts.{length-places, place_read}
use Rattle.plan_ops.proofs.starting.constants_agree.Goals as goal

pub bounds-places-from : goal.bounds-places-from
bounds-places-from c =
    let small = subst (λ (b : Binding). b.0 < c.args.count) (sym c.constant-item.is)
    (c.requires.classes c.loop-constant.constant-index c.constant-item.result c.loop-constant-test.true) in
    let n = ap length c.requires.places in
    let k = length-places c.args.count (map (λ (b : Binding). b.0) c.args.constants.now) in
    let is = c.from.ensures in
    omega (arith, n, k, small, is)

pub bounds-constants-places : goal.bounds-constants-places
bounds-constants-places c =
    let small = subst (λ (b : Binding). b.0 < c.args.count) (sym c.constant-item.is)
    (c.requires.classes c.loop-constant.constant-index c.constant-item.result c.loop-constant-test.true) in
    let read = place_read c.args.count (map (λ (b : Binding). b.0) c.args.constants.now) c.args.places.now c.constant-item.result.0 c.from.result
    c.requires.places c.from.ensures small in
    let there = subst (λ (b : Binding). place_of (map (λ (b : Binding). b.0) c.args.constants.now) b.0 < length c.args.constants.now) (sym c.constant-item.is)
    (constant_there c.args.constants.now c.loop-constant.constant-index c.constant-item.result c.loop-constant-test.true) in
    omega (arith, read, there)

pub offset_bounds-constants-places : goal.offset_bounds-constants-places
offset_bounds-constants-places c =
    let l = bounds-constants-places c in
    search rules

pub returns-then-ne : goal.returns-then-ne
returns-then-ne c =
    let e = agrees_is c.args.constants.now c.args.places.now c.args.count c.constant-item.result c.from.result c.index-constants-places.result
    c.loop-constant.constant-index c.requires.classes c.requires.places c.loop-constant-test.true c.constant-item.is c.from.ensures
    c.index-constants-places.is in
    let p = λ (b : Binding). same_value b.1 (value_of c.args.constants.now b.0) in
    sym (all_broken p c.args.constants.now c.loop-constant.constant-index c.constant-item.result c.loop-constant-test.true
    (ap p (sym c.constant-item.is) ∙ sym e ∙ from_not (same_value c.constant-item.result.1 c.index-constants-places.result.1) (sym c.ne.ensures ∙
    c.if-ne.true)))

pub loop-constant-preserved : goal.loop-constant-preserved
loop-constant-preserved c =
    let e = agrees_is c.args.constants.now c.args.places.now c.args.count c.constant-item.result c.from.result c.index-constants-places.result
    c.loop-constant.constant-index c.requires.classes c.requires.places c.loop-constant-test.true c.constant-item.is c.from.ensures
    c.index-constants-places.is in
    let p = λ (b : Binding). same_value b.1 (value_of c.args.constants.now b.0) in
    all_more p c.args.constants.now c.loop-constant.constant-index c.constant-item.result c.loop-constant.invariant c.loop-constant-test.true
    (ap p (sym c.constant-item.is) ∙ sym e ∙ from_not_false (same_value c.constant-item.result.1 c.index-constants-places.result.1) (sym c.ne.ensures
    ∙ c.if-ne.false))
