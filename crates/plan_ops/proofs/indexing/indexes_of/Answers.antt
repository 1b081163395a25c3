use Rattle.std.proofs.Common.{◌+◌, [], take, sym, subst}
use Rattle.plan_ops.specs.Matching.{AreIndexes}
use Rattle.plan_ops.proofs.MatchFacts.{indexes_all, indexes_more, indexes_none}
use Rattle.plan_ops.proofs.indexing.indexes_of.Goals as goal

pub loop-hits-init : goal.loop-hits-init
loop-hits-init g c = subst (AreIndexes c.args.places.now (g.P.AccessPort.members c.args.port.now) []) (sym c.new-indexes.ensures.items)
    (indexes_none c.args.places.now (g.P.AccessPort.members c.args.port.now))

pub loop-hits-preserved : goal.loop-hits-preserved
loop-hits-preserved g c =
    subst (AreIndexes c.args.places.now (g.P.AccessPort.members c.args.port.now) (take (c.loop-hits.hits-index + 1) c.args.groups.now))
    (sym c.in_ok-push.ensures.items)
    (indexes_more c.args.places.now (g.P.AccessPort.members c.args.port.now) c.args.groups.now c.loop-hits.hits-index c.loop-hits-test.true
    c.hits-item.result c.hits-item.is c.loop-hits.indexes.items c.loop-hits.invariant c.in_ok-index_of.field-0 c.in_ok-index_of.ensures)

pub returns : goal.returns
returns g c = indexes_all c.args.places.now (g.P.AccessPort.members c.args.port.now) c.args.groups.now c.loop-hits.hits-index c.loop-hits-test.false
    c.loop-hits.indexes.items c.loop-hits.invariant
