use Rattle.std.proofs.Common.{rules, ◌≡◌, [], ap, ◌∙◌, ◌++◌}
use Rattle.beas_core.specs.Groups.{project}
use Rattle.plan_ops.proofs.RowFacts.{if_ok, key_made}
use Rattle.plan_ops.proofs.stages.key_into.Goals as goal

pub returns : goal.returns
returns c =
    let cleared : c.reserve.new.self.items ≡ [] = search rules in λ normal is wide.
    if_ok c.push_values.result (λ _ h.
    h ∙ ap (λ vs. vs ++ project c.key-columns.result.now c.args.row.now) cleared
    ∙ ap (λ ks. project ks c.args.row.now) c.key-columns.ensures ∙ key_made normal c.args.stage.now is c.args.row.now wide) c.push_values.ensures
