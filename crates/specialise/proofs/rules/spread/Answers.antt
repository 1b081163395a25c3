use Rattle.std.proofs.Common.{◌<◌, ◌≤◌, ◌∙◌, subst, sym}
use Rattle.specialise.proofs.Tables.{spread_all, spread_more}
use Rattle.specialise.proofs.rules.spread.Goals as goal

pub loop-set-preserved : goal.loop-set-preserved
loop-set-preserved c = λ rules filled.
    let same = c.loop-set.auto.table in
    spread_more rules c.loop-set.set c.args.count c.loop-set.table (subst (λ n. c.loop-set.set < n) (sym same) c.loop-set-test.true) (same ∙ c.requires.sets)
    (c.loop-set.invariant rules filled) c.united-all.result c.united-all.ensures

pub returns : goal.returns
returns c = λ rules filled.
    spread_all rules c.loop-set.set c.loop-set.table (subst (λ n. n ≤ c.loop-set.set) (sym c.loop-set.auto.table) c.loop-set-test.false)
    (c.loop-set.invariant rules filled)
