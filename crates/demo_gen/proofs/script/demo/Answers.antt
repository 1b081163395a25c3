use Rattle.demo_gen.proofs.Written.{script_made}
use Rattle.demo_gen.proofs.script.demo.Goals as goal

pub returns : goal.returns
returns c = script_made c.args.seed c.from.result _ _ _ _ _ _ _ _ _ _ _ _ c.in_ok-text.ensures c.from.ensures
    c.in_ok-push_str.ensures.ok c.in_ok-push_cafes.ensures.text c.in_ok-push_cafes.ensures.draws
    c.in_ok-push_str-2.ensures.ok c.in_ok-push_friends.ensures.text c.in_ok-push_friends.ensures.draws
    c.in_ok-push_str-3.ensures.ok c.in_ok-push_meals.ensures.text c.in_ok-push_meals.ensures.draws
    c.in_ok-push_str-4.ensures.ok c.in_ok-push_rounds.ensures
