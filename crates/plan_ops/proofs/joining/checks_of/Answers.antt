use Rattle.std.proofs.Common.{◌≡◌, ◌<◌, ◌∙◌, ◌++◌, ◌∷◌, [], ℕ, List, ap, arith, length, get_or}
use Rattle.plan_ops.proofs.JoinFacts.{checks_upto, checks_none, checks_more, checks_same}
use Rattle.plan_ops.proofs.TableFacts.{length-places, place_read}
use Rattle.plan_ops.proofs.joining.checks_of.Goals as goal
use Rattle.plan_ops.proofs.joining.checks_of.Goals.{then-at-first+in_ok-push, else-at-first}

pub bounds-places-from : goal.bounds-places-from
bounds-places-from c =
    let test = c.loop-at-test.true in
    let wide = c.len-at-end.ensures in
    let below : c.loop-at.at < length c.args.joined.now = omega (arith, test, wide) in
    let small = c.requires.classes c.loop-at.at 0 below in
    let n = ap length c.requires.places in
    let k = length-places c.args.block.now.count c.args.joined.now in
    let is = c.from.ensures ∙ c.get.ensures in
    omega (arith, n, k, small, is)

pub loop-at-init : goal.loop-at-init
loop-at-init c = c.new-checks.ensures.items ∙ checks_none c.args.known c.args.joined.now

pub loop-at-preserved : goal.loop-at-preserved
loop-at-preserved c =
    let test = c.loop-at-test.true in
    let wide = c.len-at-end.ensures in
    let below : c.loop-at.at < length c.args.joined.now = omega (arith, test, wide) in
    let class = get_or c.args.joined.now c.loop-at.at 0 in
    let first = get_or c.args.places.now c.from.result 0 in
    let read = place_read c.args.block.now.count c.args.joined.now c.args.places.now class c.from.result c.requires.places (c.from.ensures ∙ c.get.ensures)
    (c.requires.classes c.loop-at.at 0 below) in
    elim c.if-at-first.branch [
      | then-at-first+in_ok-push w ↦ ap (λ v. v.items) w.checks-is ∙ w.in_ok-push.ensures.items
          ∙ ap (λ (cs : List (ℕ × ℕ)). cs ++ (c.loop-at.at, first) ∷ []) c.loop-at.invariant
          ∙ checks_more c.args.known c.args.joined.now c.loop-at.at first c.loop-at.auto.at read w.if-at-first.true
      | else-at-first w ↦ ap (λ v. v.items) w.checks-is ∙ c.loop-at.invariant
          ∙ checks_same c.args.known c.args.joined.now c.loop-at.at first c.loop-at.auto.at read w.if-at-first.false
    ]

pub returns : goal.returns
returns c =
    let low = c.loop-at-test.false in
    let high = c.loop-at.auto.at-end in
    let known = c.requires.known in
    let wide = c.len-at-end.ensures in
    let end : c.loop-at.at ≡ length c.args.joined.now = omega (arith, low, high, known, wide) in
    c.loop-at.invariant ∙ ap (checks_upto c.args.known c.args.joined.now) end
