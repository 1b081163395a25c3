use Rattle.std.proofs.Common.{◌≡◌, ◌++◌, ◌∙◌, true, length, map, ap, sym}
use Rattle.std.proofs.lemmas.Result.{on_ok_weaker}
use Rattle.beas_core.specs.Guiding.{tasks_from}
use Rattle.beas_core.specs.Nodes.{query_tree}
use Rattle.beas_core.specs.Trees.{QueryTree, Either, Minus}
use Rattle.plan_builder.specs.Parts.{task_at}
use Rattle.plan_builder.specs.Preparation.{constraints_with}
use Rattle.plan_builder.proofs.PreparationFacts.{lent_both}
use Rattle.plan_builder.proofs.blocks.+push_blocks.Goals as goal

pub returns-in_ok-push_blocks-in-Union-clause-tasks : goal.returns-in_ok-push_blocks-in-Union-clause-tasks
returns-in_ok-push_blocks-in-Union-clause-tasks t c =
    let l = c.deref.result.now in
    let r = c.deref-in-Union.result.now in
    let old = c.args.found.now in
    let extra = c.args.extra.now in
    let whole : c.args.query.now ≡ Either l r = sym c.query.view_is ∙ ap query_tree c.in-Union.is
    ∙ ap (λ (x : QueryTree). Either x c.in-Union.right.value) (sym c.deref.ensures) ∙ ap (Either l) (sym c.deref-in-Union.ensures) in
    on_ok_weaker c.push_blocks-in-Union.result (λ right a.
    lent_both a extra old c.push_blocks.new.found c.push_blocks-in-Union.new.found c.args.has_guide c.args.has_guide l r c.in_ok-push_blocks-in-Union.ensures.blocks (c.in_ok-push_blocks-in-Union.ensures.tasks a) (right a)
    ∙ ap (λ (x : QueryTree). map (task_at a) old ++ tasks_from (constraints_with a extra) (length old) c.args.has_guide x) (sym whole))
    c.push_blocks-in-Union.ensures.tasks

pub returns-in_ok-push_blocks-in-Except-clause-tasks : goal.returns-in_ok-push_blocks-in-Except-clause-tasks
returns-in_ok-push_blocks-in-Except-clause-tasks t c =
    let l = c.deref-in-Except.result.now in
    let r = c.deref-in-Except-2.result.now in
    let old = c.args.found.now in
    let extra = c.args.extra.now in
    let whole : c.args.query.now ≡ Minus l r = sym c.query.view_is ∙ ap query_tree c.in-Except.is
    ∙ ap (λ (x : QueryTree). Minus x c.in-Except.right.value) (sym c.deref-in-Except.ensures) ∙ ap (Minus l) (sym c.deref-in-Except-2.ensures) in
    on_ok_weaker c.push_blocks-in-Except-2.result (λ right a.
    lent_both a extra old c.push_blocks-in-Except.new.found c.push_blocks-in-Except-2.new.found c.args.has_guide true l r c.in_ok-push_blocks-in-Except.ensures.blocks (c.in_ok-push_blocks-in-Except.ensures.tasks a) (right a)
    ∙ ap (λ (x : QueryTree). map (task_at a) old ++ tasks_from (constraints_with a extra) (length old) c.args.has_guide x) (sym whole))
    c.push_blocks-in-Except-2.ensures.tasks
