use Rattle.std.proofs.Common.{ap, ◌∙◌, ◌++◌, take, drop}
use Rattle.plan_ops.proofs.RowFacts.{if_ok, pair_joined}
use Rattle.plan_ops.proofs.stages.push_joined.Goals as goal

pub returns : goal.returns
returns c = λ normal is pair. if_ok c.push_pair.result (λ _ h.
    h ∙ ap (λ vs. c.args.values.now.items ++ vs)
    (pair_joined normal c.args.stage.now is (take c.args.width (drop c.args.from c.args.values.now.items)) c.args.tuple.now pair).1) c.push_pair.ensures
