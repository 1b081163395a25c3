use Rattle.std.proofs.Common.{rules, ◌≡◌, ◌<◌, ◌+◌, ◌∙◌, [], ap, sym, subst, arith, length, replicate, take}
use Rattle.plan_ops.proofs.TableFacts.{ArePlaced, placed_none, placed_new, placed_before, placed_all}
use Rattle.std.proofs.Math.Seq.{take-length}
use Rattle.plan_ops.proofs.tables.first_positions.Goals as goal
use Rattle.plan_ops.proofs.tables.first_positions.Goals.{then-index-none, else-index-none}

pub loop-at-init : goal.loop-at-init
loop-at-init c =
    let filled : c.in_ok-places.places.items ≡ replicate c.args.count c.len-none.result = search rules in
    subst (ArePlaced c.args.count (length c.args.list.now) []) (sym (filled ∙ ap (replicate c.args.count) c.len-none.ensures))
    (placed_none c.args.count (length c.args.list.now))

pub loop-at-preserved : goal.loop-at-preserved
loop-at-preserved c =
    let test = c.loop-at-test.true in
    let wide = c.len-none.ensures in
    let below : c.loop-at.at < length c.args.list.now = omega (arith, test, wide) in
    let class = c.from-class.ensures ∙ c.get.ensures in
    let small = subst (λ y. y < c.args.count) (sym class) (c.requires c.loop-at.at 0 below) in
    let read = c.index.ensures ∙ c.loop-at.invariant.placed c.from-class.result c.index.result.now small in
    elim c.if-index-none.branch [
      | then-index-none w ↦ subst (ArePlaced c.args.count (length c.args.list.now) (take (c.loop-at.at + 1) c.args.list.now)) (ap (λ v.
          v.items) (sym w.places-is))
          (placed_new c.args.count c.args.list.now c.loop-at.places.items c.loop-at.at c.from-class.result below class small
          c.loop-at.invariant (sym read ∙ w.if-index-none.true ∙ wide))
      | else-index-none w ↦ subst (ArePlaced c.args.count (length c.args.list.now) (take (c.loop-at.at + 1) c.args.list.now)) (ap (λ v.
          v.items) (sym w.places-is))
          (placed_before c.args.count c.args.list.now c.loop-at.places.items c.loop-at.at c.from-class.result below class small
          c.loop-at.invariant (λ h. w.if-index-none.false (read ∙ h ∙ sym wide)))
    ]

pub returns : goal.returns
returns c = placed_all c.args.count c.args.list.now c.loop-at.places.items
    (subst (λ cs. ArePlaced c.args.count (length c.args.list.now) cs c.loop-at.places.items)
    (ap (λ k. take k c.args.list.now) (let low = c.loop-at-test.false in let high = c.loop-at.auto.at-end in let wide = c.len-none.ensures in
    let e : c.loop-at.at ≡ length c.args.list.now = omega (arith, low, high, wide) in e) ∙ take-length c.args.list.now)
    c.loop-at.invariant)
