use Rattle.std.proofs.Common.{◌∙◌, ◌<◌, ◌≤◌, length, arith, sym}
use Rattle.block_walk.proofs.OrderedFacts.{kept_at, kept_past}
use Rattle.block_walk.proofs.ordered.OrderedKeys.get.Goals as goal

pub returns-then-step-len : goal.returns-then-step-len
returns-then-step-len c =
    let steps = c.args.self.now.steps in
    let within : c.args.step < length steps.items = omega (arith, steps.ok.0, c.len.ensures, c.if-step-len.true) in
    c.copied.ensures ∙ c.get.ensures.value ∙ sym (kept_at steps.items c.args.step c.args.key.now c.index.result.now within c.index.ensures)

pub returns-else-step-len : goal.returns-else-step-len
returns-else-step-len c =
    let steps = c.args.self.now.steps in
    let past : length steps.items ≤ c.args.step = omega (arith, steps.ok.0, c.len.ensures, c.if-step-len.false) in
    sym (kept_past steps.items c.args.step c.args.key.now past)
