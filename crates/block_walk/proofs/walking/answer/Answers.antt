use Rattle.std.proofs.Common.{rules, ◌≡◌, ◌∙◌, ap}
use Rattle.std.specs.Option.{option_copied}
use Rattle.beas_core.specs.Order.{row_cmp}
use Rattle.beas_core.specs.Sets.{distinct}
use Rattle.block_walk.specs.Routes.{route}
use Rattle.block_walk.proofs.LoopFacts.{ended_answers}
use Rattle.block_walk.proofs.walking.answer.Goals as goal

pub returns-clause-rows : goal.returns-clause-rows
returns-clause-rows c = λ w sound agree.
    let r = route c.args.block.now (option_copied c.args.guide) c.args.plan.now in
    let taken : c.replace-rows.result ≡ c.args.walk.now.through = search rules in
    c.from_vec.ensures ∙ c.sort_distinct.ensures ∙ ap (distinct row_cmp) (c.into_vec.ensures ∙ taken)
    ∙ ended_answers w r c.args.walk.now (c.requires.stands w sound agree) c.requires.ended
