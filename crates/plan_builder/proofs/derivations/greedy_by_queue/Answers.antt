use Rattle.std.proofs.Common.{◌∙◌, ap, sym}
use Rattle.beas_core.specs.Derivations.{greedy_steps}
use Rattle.plan_builder.proofs.Turns.{from_true, from_false}
use Rattle.plan_builder.proofs.derivations.greedy_by_queue.Goals as goal

pub returns-then-branch : goal.returns-then-branch
returns-then-branch c =
    sym (from_true _ _ c.in_ok-added.field-0 c.in_ok-added.ensures c.if-branch.true)
    ∙ ap (λ a. greedy_steps c.args.block.now a c.in_ok-candidates.candidates.keys.set.items) c.as_slice-live.ensures
    ∙ ap (greedy_steps c.args.block.now c.args.accesses.now) c.in_ok-candidates.ensures.set

pub returns-else-branch : goal.returns-else-branch
returns-else-branch c =
    sym (from_false _ _ c.in_ok-added.field-0 c.in_ok-added.ensures c.if-branch.false)
    ∙ ap (λ a. greedy_steps c.args.block.now a c.in_ok-candidates.candidates.keys.set.items) c.as_slice-live.ensures
    ∙ ap (greedy_steps c.args.block.now c.args.accesses.now) c.in_ok-candidates.ensures.set
