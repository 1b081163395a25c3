use Rattle.std.proofs.Common.{◌≡◌, ◌<◌, ◌+◌, ◌-◌, ◌∙◌, arith, length, subst}
use Rattle.specialise.proofs.Tables.{Closing, closing_all, closing_more, more_inside}
use Rattle.specialise.proofs.rules.close.Goals as goal

pub reached-all-requires-clause-inside : goal.reached-all-requires-clause-inside
reached-all-requires-clause-inside c =
    let old = c.args.table.now in
    let table = c.loop-set.table in
    let n = c.loop-set.set in
    let same : length table ≡ length old = c.loop-set.auto.table in
    let inside : n - 1 < length table = omega (arith, same, c.loop-set-test.true, c.loop-set.auto.set) in
    let next : n ≡ n - 1 + 1 = omega (arith, c.loop-set-test.true) in
    more_inside old table (n - 1) c.requires.sets.0 inside same (same ∙ c.requires.sets.1) (subst (λ k. Closing old k table) next c.loop-set.invariant)

pub loop-set-preserved : goal.loop-set-preserved
loop-set-preserved c =
    let old = c.args.table.now in
    let table = c.loop-set.table in
    let n = c.loop-set.set in
    let same : length table ≡ length old = c.loop-set.auto.table in
    let inside : n - 1 < length table = omega (arith, same, c.loop-set-test.true, c.loop-set.auto.set) in
    let next : n ≡ n - 1 + 1 = omega (arith, c.loop-set-test.true) in
    closing_more old table (n - 1) c.requires.sets.0 inside same (same ∙ c.requires.sets.1) (subst (λ k. Closing old k table) next c.loop-set.invariant)
    c.reached-all.result c.reached-all.ensures

pub returns : goal.returns
returns c =
    let none : c.loop-set.set ≡ 0 = omega (arith, c.loop-set-test.false) in
    closing_all c.args.table.now c.loop-set.table (subst (λ k. Closing c.args.table.now k c.loop-set.table) none c.loop-set.invariant)
