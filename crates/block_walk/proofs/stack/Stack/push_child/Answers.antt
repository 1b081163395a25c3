use Rattle.std.proofs.Common.{rules, ◌≡◌, ◌+◌, ◌-◌, ◌∙◌, length, ap, arith, length-append}
use Rattle.plan_ops.specs.Stages.{joined_row, set_before, use_at}
use Rattle.block_walk.specs.declared.stack.StackedValuation.{StackedValuation}
use Rattle.block_walk.specs.declared.stack.Stack.{Stack}
use Rattle.block_walk.specs.Kept.{part}
use Rattle.block_walk.proofs.StackFacts.{pending_more, stack_more}
use Rattle.block_walk.proofs.stack.Stack.push_child.Goals as goal

pub returns-clause-stack : goal.returns-clause-stack
returns-clause-stack c =
    let now : Stack = record { values = c.push_joined.new.values; valuations = c.push.new.self } in
    let at = c.args.at in
    let row = joined_row c.args.block.now (use_at c.args.stage.now) (set_before c.args.block.now c.args.stage.now)
    (part c.args.self.now.values.items at.from at.width) c.args.tuple.now in
    let values = c.in_ok-push_joined.ensures c.args.block.now c.requires.stage c.requires.pair in
    let longer = ap length values ∙ length-append c.args.self.now.values.items row in
    let m : StackedValuation = record { step = at.step + 1; from = c.len-from.result; width = c.len.result - c.len-from.result } in
    let from : m.from ≡ length c.args.self.now.values.items = search rules in
    let all : c.len.result ≡ length c.push_joined.new.values.items = search rules in
    stack_more c.args.self.now now row m c.requires.stack values c.in_ok-push.ensures.items from (omega (arith, from, all, longer))

pub returns-clause-pending : goal.returns-clause-pending
returns-clause-pending c =
    let now : Stack = record { values = c.push_joined.new.values; valuations = c.push.new.self } in
    let at = c.args.at in
    let row = joined_row c.args.block.now (use_at c.args.stage.now) (set_before c.args.block.now c.args.stage.now)
    (part c.args.self.now.values.items at.from at.width) c.args.tuple.now in
    let values = c.in_ok-push_joined.ensures c.args.block.now c.requires.stage c.requires.pair in
    let longer = ap length values ∙ length-append c.args.self.now.values.items row in
    let m : StackedValuation = record { step = at.step + 1; from = c.len-from.result; width = c.len.result - c.len-from.result } in
    let from : m.from ≡ length c.args.self.now.values.items = search rules in
    let all : c.len.result ≡ length c.push_joined.new.values.items = search rules in
    pending_more c.args.self.now now row m c.requires.stack values c.in_ok-push.ensures.items from (omega (arith, from, all, longer))
