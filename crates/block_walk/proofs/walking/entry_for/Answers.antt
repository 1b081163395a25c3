use Rattle.std.proofs.Common.{◌≡◌, ◌∙◌, length, ap}
use Rattle.plan_ops.specs.Stages.{key_by, set_before, use_at}
use Rattle.block_walk.specs.Stacks.{row_of}
use Rattle.block_walk.proofs.FindFacts.{spent_probed}
use Rattle.block_walk.proofs.LoopFacts.{on_err}
use Rattle.block_walk.proofs.walking.entry_for.Goals as goal

pub returns-clause-spent : goal.returns-clause-spent
returns-clause-spent g c =
    let key_from = key_by c.args.block.now (use_at c.args.stage.now) (set_before c.args.block.now c.args.stage.now) in
    let key = key_from (row_of c.args.pending.now c.args.at) in
    let probed = c.key_into.new.key.items in
    let is_key : probed ≡ key =
    c.in_ok-key_into.ensures c.args.block.now c.requires.stage (ap length c.row.ensures ∙ c.requires.wide) ∙ ap key_from c.row.ensures in
    on_err c.fetch.result
    (spent_probed (g.P.AccessPort.rows c.args.port.now) (g.P.AccessPort.accesses c.args.port.now) c.args.id c.args.at.step c.args.known.now c.deref-2.result.now probed key
    c.deref-2.ensures.value is_key c.in_default.ensures.none c.args.steps.now c.fetch.new.steps c.fetch.ensures.cost)
