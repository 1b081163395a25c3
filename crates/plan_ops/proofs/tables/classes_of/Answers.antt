use Rattle.std.proofs.Common.{◌≡◌, ◌∷◌, [], ◌++◌, ◌∙◌, ap, arith, length}
use Rattle.std.specs.Prelude.{vec_len, vec_capacity}
use Rattle.std.specs.List.{filter, range_with_len}
use Rattle.beas_core.specs.Coverage.{has}
use Rattle.plan_ops.specs.Over.{set_of}
use Rattle.plan_ops.specs.Places.{place_of}
use Rattle.plan_ops.proofs.BoundSets.{counted, held_by_place, class_held, class_open, is_below, is_above}
use Rattle.plan_ops.proofs.TableFacts.{length-places, place_read}
use Rattle.plan_ops.proofs.tables.classes_of.Goals as goal
use Rattle.plan_ops.proofs.tables.classes_of.Goals.{then-places-from, else-places-from}

pub bounds-places-from : goal.bounds-places-from
bounds-places-from c =
    let n = ap length c.requires.places in
    let k = length-places c.args.block.now.count c.args.list.now in
    omega (arith, n, k)

pub loop-class-preserved : goal.loop-class-preserved
loop-class-preserved c =
    let read = place_read c.args.block.now.count c.args.list.now c.args.places.now c.loop-class.class c.from.result c.requires.places
    c.from.ensures c.loop-class-test.true in
    let set = set_of c.args.block.now c.args.list.now in
    let few = c.loop-class.invariant.len in
    elim c.if-places-from.branch [
      | then-places-from w ↦ (
          let is = ap (λ v. vec_len v) w.found-is in
          let more = w.push_reserved.ensures.len in
          record {
            items = ap (λ v. v.items) w.found-is ∙ w.push_reserved.ensures.items ∙ ap (λ ks. ks ++ c.loop-class.class ∷ []) c.loop-class.invariant.items
                ∙ class_held set c.loop-class.class
                (held_by_place c.args.block.now c.args.list.now c.loop-class.class c.loop-class-test.true
                ∙ is_below (place_of c.args.list.now c.loop-class.class) (length c.args.list.now) (omega (arith, read, w.if-places-from.true, c.len-none.ensures)));
            len = omega (arith, few, is, more);
            room = ap (λ v. vec_capacity v) w.found-is ∙ w.push_reserved.ensures.capacity ∙ c.loop-class.invariant.room;
          })
      | else-places-from w ↦ (
          let is = ap (λ v. vec_len v) w.found-is in
          record {
            items = ap (λ v. v.items) w.found-is ∙ c.loop-class.invariant.items
                ∙ class_open set c.loop-class.class
                (held_by_place c.args.block.now c.args.list.now c.loop-class.class c.loop-class-test.true
                ∙ is_above (place_of c.args.list.now c.loop-class.class) (length c.args.list.now) (omega (arith, read, w.if-places-from.false, c.len-none.ensures)));
            len = omega (arith, few, is);
            room = ap (λ v. vec_capacity v) w.found-is ∙ c.loop-class.invariant.room;
          })
    ]

pub returns : goal.returns
returns c =
    let set = set_of c.args.block.now c.args.list.now in
    let n = counted c.args.block.now c.args.list.now in
    let low = c.loop-class-test.false in
    let high = c.loop-class.auto.class-end in
    let end : c.loop-class.class ≡ length set = omega (arith, n, low, high) in
    c.from_vec.ensures ∙ c.loop-class.invariant.items ∙ ap (λ k. filter (has set) (range_with_len 0 k)) end
