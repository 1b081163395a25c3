use Rattle.std.proofs.Common.{rules}
use Rattle.block_walk.specs.declared.stack.Stack.{Stack}
use Rattle.block_walk.specs.declared.stack.StackedValuation.{StackedValuation}
use Rattle.block_walk.proofs.StackFacts.{pending_more, stack_more}
use Rattle.block_walk.proofs.stack.Stack.push_first.Goals as goal

pub returns-clause-stack : goal.returns-clause-stack
returns-clause-stack c =
    let now : Stack = record { values = c.append.new.self; valuations = c.push.new.self } in
    let m : StackedValuation = record { step = 0; from = c.len-from.result; width = c.len-width.result } in
    stack_more c.args.self.now now c.args.row.now.items m c.requires c.in_ok-append.ensures.items c.in_ok-push.ensures.items
    (search rules) (search rules)

pub returns-clause-pending : goal.returns-clause-pending
returns-clause-pending c =
    let now : Stack = record { values = c.append.new.self; valuations = c.push.new.self } in
    let m : StackedValuation = record { step = 0; from = c.len-from.result; width = c.len-width.result } in
    pending_more c.args.self.now now c.args.row.now.items m c.requires c.in_ok-append.ensures.items c.in_ok-push.ensures.items
    (search rules) (search rules)
