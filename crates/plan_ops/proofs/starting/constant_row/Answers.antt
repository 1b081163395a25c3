use Rattle.std.proofs.Common.{◌+◌, ◌++◌, ◌∷◌, [], ◌∙◌, ap, arith, length, get_or, map, rules}
use Rattle.beas_core.specs.Types.{Binding, Row}
use Rattle.beas_core.specs.Valuations.{value_of}
use Rattle.plan_ops.proofs.ConstantFacts.{constant_value, mapped_more}
use Rattle.plan_ops.proofs.TableFacts.{length-places, place_read}
use Rattle.plan_ops.proofs.starting.constant_row.Goals as goal

pub bounds-places-from : goal.bounds-places-from
bounds-places-from c =
    let small = c.requires.classes c.loop-class.class-index 0 c.loop-class-test.true in
    let n = ap length c.requires.places in
    let k = length-places c.args.count (map (λ (b : Binding). b.0) c.args.constants.now) in
    let is = c.from.ensures in
    omega (arith, n, k, small, is)

pub bounds-constants-places : goal.bounds-constants-places
bounds-constants-places c =
    let small = c.requires.classes c.loop-class.class-index 0 c.loop-class-test.true in
    let read = place_read c.args.count (map (λ (b : Binding). b.0) c.args.constants.now) c.args.places.now (get_or c.args.classes.now
    c.loop-class.class-index 0)
    c.from.result c.requires.places c.from.ensures small in
    let there = c.requires.equated c.loop-class.class-index 0 c.loop-class-test.true in
    omega (arith, read, there)

pub offset_bounds-constants-places : goal.offset_bounds-constants-places
offset_bounds-constants-places c =
    let l = bounds-constants-places c in
    search rules

pub loop-class-preserved : goal.loop-class-preserved
loop-class-preserved c =
    let class = get_or c.args.classes.now c.loop-class.class-index 0 in
    let small = c.requires.classes c.loop-class.class-index 0 c.loop-class-test.true in
    let read = place_read c.args.count (map (λ (b : Binding). b.0) c.args.constants.now) c.args.places.now class
    c.from.result c.requires.places c.from.ensures small in
    let value = c.in_ok-copy.ensures ∙ ap (λ (b : Binding). b.1) c.index-constants-places.is
    ∙ ap (λ n. (get_or c.args.constants.now n c.index-constants-places.result).1) read
    ∙ constant_value c.args.constants.now class c.index-constants-places.result (c.requires.equated c.loop-class.class-index 0 c.loop-class-test.true) in
    record {
      items = c.push_reserved.ensures.items ∙ ap (λ (vs : Row). vs ++ c.in_ok-copy.field-0 ∷ []) c.loop-class.invariant.items
          ∙ mapped_more (value_of c.args.constants.now) c.args.classes.now c.loop-class.class-index 0 c.in_ok-copy.field-0 c.loop-class-test.true value;
      len = c.push_reserved.ensures.len ∙ ap (λ n. n + 1) c.loop-class.invariant.len;
      room = c.push_reserved.ensures.capacity ∙ c.loop-class.invariant.room;
    }
