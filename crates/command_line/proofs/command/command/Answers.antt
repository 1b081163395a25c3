use Rattle.std.proofs.Common.{◌≡◌, ◌∙◌, ap₂, codes, rules}
use Rattle.clap.specs.Simple.{app_of, new_app, with_rule}
use Rattle.clap.specs.Walk.{rule_of}
use Rattle.command_line.specs.Arguments.{beas, flag_rule, nameless, option_rule, script_rule}
use Rattle.command_line.proofs.command.command.Goals as goal

pub returns : goal.returns
unfolding beas
returns c =
    let script_is : rule_of c.new-script.result ≡ script_rule = search rules in
    let budget_is : rule_of c.long-budget.result ≡ option_rule (codes "budget") = search rules in
    let demo_is : rule_of c.long-demo.result ≡ option_rule (codes "demo") = search rules in
    let explain_is : rule_of c.action-explain.result ≡ flag_rule (codes "explain") = search rules in
    let nameless_is : app_of c.no_binary_name-command.result ≡ nameless (new_app (codes "beas")) = search rules in
    c.in_ok-arg-3.ensures.shape (search rules) ∙ ap₂ with_rule
    (c.in_ok-arg-2.ensures.shape (search rules) ∙ ap₂ with_rule
    (c.in_ok-command.ensures.shape (search rules) ∙ ap₂ with_rule
    (c.in_ok-arg.ensures.shape (search rules) ∙ ap₂ with_rule nameless_is script_is) budget_is) demo_is) explain_is
