use Rattle.std.proofs.Common.{◌<◌, ◌+◌, subst}
use Rattle.specialise.specs.Trials.{classes_in}
use Rattle.specialise.proofs.Tried.{none_more, now_found}
use Rattle.specialise.proofs.trial.Trial.find_set.Goals as goal

pub returns-in-Some : goal.returns-in-Some
returns-in-Some c =
    let t = c.args.self.now in
    let size = c.loop-size.size in
    now_found t.accesses.now t.block.now t.candidates t.candidates_are size (subst (λ n. size < n + 1) c.len-count.ensures c.loop-size-test.true)
    c.loop-size.invariant (classes_in t.accesses.now t.block.now c.in-Some.set) c.in-Some.ensures

pub loop-size-preserved : goal.loop-size-preserved
loop-size-preserved c =
    let t = c.args.self.now in
    none_more t.accesses.now t.block.now c.loop-size.size c.loop-size.invariant c.in_default.ensures
