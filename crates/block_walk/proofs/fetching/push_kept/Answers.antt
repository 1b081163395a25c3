use Rattle.std.proofs.Common.{◌+◌, ◌∙◌, [], length, take, get_or, refl, ap, sym, subst, arith}
use Rattle.std.specs.List.{filter}
use Rattle.std.specs.Prelude.{Vec}
use Rattle.std.specs.declared.alloc.Global.{Global}
use Rattle.beas_core.specs.declared.value.Value.{Value}
use Rattle.plan_ops.specs.Sieves.{passes, sieved}
use Rattle.block_walk.specs.Fetched.{Pushed}
use Rattle.block_walk.proofs.FetchedFacts.{tuple_at}
use Rattle.block_walk.proofs.PushedFacts.{keeps_more, keeps_one, keeps_same}
use Rattle.block_walk.proofs.fetching.push_kept.Goals.{then-passes+in_ok-push_tuple+else-one, else-passes}
use Rattle.block_walk.proofs.fetching.push_kept.Goals as goal

pub returns-then-one : goal.returns-then-one
returns-then-one g c =
    let members = g.P.AccessPort.members c.args.port.now c.args.hits.now in
    let columns = c.args.stage.now.join.picked.0 in
    let i = c.loop-i.i in
    let test = c.loop-i-test.true in
    let end = c.len-i-end.ensures in
    let count = c.requires.hits.count in
    let tuple = get_or members i [] in
    let wide = (tuple_at (g.P.AccessPort.accesses c.args.port.now) (g.P.AccessPort.stands c.args.port.now) (g.P.AccessPort.members c.args.port.now)
    c.args.hits.now c.requires.hits columns c.requires.columns i (omega (arith, test, end))).wide in
    subst (λ b. Pushed (length columns) c.args.values.now.items c.push_tuple.new.values.items (sieved c.args.block.now c.args.stage.now.sieve b members) 1)
    (sym c.if-one.true)
    (keeps_one c.args.block.now c.args.stage.now.sieve members i tuple (omega (arith, test, end, count)) refl (length columns) c.args.values.now.items
    c.loop-i.values.items c.loop-i.kept c.loop-i.invariant.pushed (c.loop-i.invariant.none c.if-one.true) (sym c.passes.ensures ∙ c.if-passes.true)
    c.push_tuple.new.values.items wide c.in_ok-push_tuple.ensures)

pub loop-i-preserved : goal.loop-i-preserved
loop-i-preserved g c =
    let members = g.P.AccessPort.members c.args.port.now c.args.hits.now in
    let sieve = c.args.stage.now.sieve in
    let columns = c.args.stage.now.join.picked.0 in
    let i = c.loop-i.i in
    let old = c.args.values.now.items in
    let values = c.loop-i.values.items in
    let kept = c.loop-i.kept in
    let few = c.loop-i.invariant.few in
    let test = c.loop-i-test.true in
    let end = c.len-i-end.ensures in
    let count = c.requires.hits.count in
    let tuple = get_or members i [] in
    let next = filter (passes c.args.block.now sieve) (take (i + 1) members) in
    let wide = (tuple_at (g.P.AccessPort.accesses c.args.port.now) (g.P.AccessPort.stands c.args.port.now) (g.P.AccessPort.members c.args.port.now)
    c.args.hits.now c.requires.hits columns c.requires.columns i (omega (arith, test, end))).wide in
    elim c.if-passes.branch [
      | then-passes+in_ok-push_tuple+else-one w ↦ record {
        pushed = subst (Pushed (length columns) old c.if-passes.values.items next) (sym w.kept-is)
            (keeps_more c.args.block.now sieve members i tuple (omega (arith, test, end, count)) refl (length columns) old values kept c.loop-i.invariant.pushed
            (sym c.passes.ensures ∙ w.if-passes.true) c.if-passes.values.items wide
            (ap (λ (v : Vec Value Global). v.items) w.values-is ∙ w.in_ok-push_tuple.ensures));
        few = (let more = w.kept-is in omega (arith, few, more));
        none = λ e. (let all = w.if-one.false in cc);
      }
      | else-passes w ↦ record {
        pushed = subst (Pushed (length columns) old c.if-passes.values.items next) (sym w.kept-is)
            (subst (λ (v : Vec Value Global). Pushed (length columns) old v.items next kept) (sym w.values-is)
            (keeps_same c.args.block.now sieve members i tuple (omega (arith, test, end, count)) refl (length columns) old values kept c.loop-i.invariant.pushed
            (sym c.passes.ensures ∙ w.if-passes.false)));
        few = (let same = w.kept-is in omega (arith, few, same));
        none = λ e. w.kept-is ∙ c.loop-i.invariant.none e;
      }
    ]
