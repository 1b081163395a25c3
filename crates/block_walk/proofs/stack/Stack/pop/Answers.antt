use Rattle.std.proofs.Common.{rules}
use Rattle.block_walk.specs.declared.stack.Stack.{Stack}
use Rattle.block_walk.proofs.StackFacts.{last_inside, last_left, pending_less, stack_less}
use Rattle.block_walk.proofs.stack.Stack.pop.Goals as goal

pub overflow_add-at : goal.overflow_add-at
overflow_add-at c =
    let left : Stack = record { values = c.args.self.now.values; valuations = c.pop.new.self } in
    let inside = last_inside c.args.self.now left c.in_ok-at.at c.requires c.in_ok-at.ensures.items in
    search rules

pub returns-clause-stack : goal.returns-clause-stack
returns-clause-stack c =
    let new : Stack = record { values = c.truncate.new.self; valuations = c.pop.new.self } in
    stack_less c.args.self.now new c.in_ok-at.at c.requires c.in_ok-at.ensures.items c.truncate.ensures.items

pub returns-clause-last : goal.returns-clause-last
returns-clause-last c =
    let new : Stack = record { values = c.truncate.new.self; valuations = c.pop.new.self } in
    last_left c.args.self.now new c.in_ok-at.at c.requires c.in_ok-at.ensures.items c.truncate.ensures.items

pub returns-clause-pending : goal.returns-clause-pending
returns-clause-pending c =
    let new : Stack = record { values = c.truncate.new.self; valuations = c.pop.new.self } in
    pending_less c.args.self.now new c.in_ok-at.at c.requires c.in_ok-at.ensures.items c.truncate.ensures.items
