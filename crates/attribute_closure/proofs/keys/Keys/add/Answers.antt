use Rattle.std.proofs.Common.{map, rules, arith}
use Rattle.attribute_closure.specs.Uses.{as_use}
use Rattle.attribute_closure.proofs.Waiting.{add_inside, add_enough, add_counted}
use Rattle.attribute_closure.proofs.keys.Keys.add.Goals as goal

pub count_down-requires-clause-inside : goal.count_down-requires-clause-inside
count_down-requires-clause-inside c =
    add_inside c.args.block.now (map as_use c.args.self.now.uses) c.args.self.now.set.items c.args.self.now.missing.items c.args.self.now.waiting.items
    c.args.self.now.ready c.requires.counted
    c.from-place.result (omega arith) c.index.result.now c.index.ensures c.if-not-index.true c.as_slice.result.now c.index-then-not-index.result.now
    c.deref_mut.result.now c.as_slice.ensures c.index-then-not-index.ensures c.deref_mut.ensures.value

pub count_down-requires-clause-enough : goal.count_down-requires-clause-enough
count_down-requires-clause-enough c =
    add_enough c.args.block.now (map as_use c.args.self.now.uses) c.args.self.now.set.items c.args.self.now.missing.items c.args.self.now.waiting.items
    c.args.self.now.ready c.requires.counted
    c.from-place.result (omega arith) c.index.result.now c.index.ensures c.if-not-index.true c.as_slice.result.now c.index-then-not-index.result.now
    c.deref_mut.result.now c.as_slice.ensures c.index-then-not-index.ensures c.deref_mut.ensures.value

pub returns-in_ok-count_down-clause-counted : goal.returns-in_ok-count_down-clause-counted
returns-in_ok-count_down-clause-counted c =
    add_counted c.args.block.now (map as_use c.args.self.now.uses) c.args.self.now.set.items c.args.self.now.missing.items c.args.self.now.waiting.items
    c.args.self.now.ready c.requires.counted
    c.from-place.result (omega arith) c.index.result.now c.index.ensures c.if-not-index.true c.as_slice.result.now c.index-then-not-index.result.now
    c.deref_mut.result.now c.as_slice.ensures c.index-then-not-index.ensures c.deref_mut.ensures.value
    c.count_down.new.missing c.count_down.new.ready c.args.self.now.missing.len c.in_ok-count_down.ensures (search rules)
