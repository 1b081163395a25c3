use Rattle.std.proofs.Common.{◌++◌, ◌∷◌, ◌∙◌, [], ap, sym, map, arith}
use Rattle.std.specs.List.{filter}
use Rattle.beas_core.specs.Coverage.{is_covered, uses}
use Rattle.beas_core.specs.Derivations.{least_bound, step_of, with_use}
use Rattle.attribute_closure.specs.Uses.{as_use}
use Rattle.plan_builder.specs.Choices.{may_add}
use Rattle.plan_builder.proofs.Turns.{left_done, left_stuck, left_out, plan_bound, plan_live, plan_left, chosen_member, by_bool}
use Rattle.plan_builder.proofs.derivations.add_steps.Goals as goal

pub returns-then-cover-clause-come : goal.returns-then-cover-clause-come
returns-then-cover-clause-come c = λ accesses once same.
    let now = c.loop-turn.invariant in
    let so_far = now.come accesses once same in
    let covered = sym (c.cover.ensures accesses (ap (map as_use) now.listed ∙ same)) ∙ c.if-cover.true in (
      so_far.0,
      left_done c.args.block.now accesses c.args.candidates.now.keys.set.items c.loop-turn.candidates.keys.set.items c.loop-turn.steps
          c.args.block.now.count c.loop-turn._turn (omega arith) so_far.1 covered,
    )

pub returns-in-None-clause-come : goal.returns-in-None-clause-come
returns-in-None-clause-come c = λ accesses once same.
    let now = c.loop-turn.invariant in
    let listed = ap (map as_use) now.listed ∙ same in
    let so_far = now.come accesses once same in
    let covered = sym (c.cover.ensures accesses listed) ∙ c.if-cover.false in
    let best = ap (λ us. least_bound (filter (may_add c.args.block.now c.loop-turn.candidates.keys.set.items) us)) (sym listed)
    ∙ sym c.in-None.ensures.best in
    left_stuck c.args.block.now accesses c.args.candidates.now.keys.set.items c.loop-turn.candidates.keys.set.items c.loop-turn.steps
    c.args.block.now.count c.loop-turn._turn (omega arith) so_far.1 covered best

pub loop-turn-preserved : goal.loop-turn-preserved
loop-turn-preserved c =
    let now = c.loop-turn.invariant in
    let found = c.in-Some.found in
    let take = c.in_ok-take-in-Some.ensures in
    let normal = c.args.block.now in
    let set = c.loop-turn.candidates.keys.set.items in
    let steps = c.loop-turn.steps in
    let start = c.args.candidates.now.keys.set.items in
    let set2 = c.take.new.self.keys.set.items in
    let steps2 = c.push_step.new.steps in
    let pushed = c.in_ok-push_step-in-Some.ensures
    ∙ ap (λ s. steps ++ step_of normal s (as_use found) ∷ []) (c.deref.ensures.value ∙ ap (λ k. k.set.items) c.in-Some.ensures.keys) in
    let grown = take.set ∙ ap (λ k. with_use normal k.set.items (as_use found)) c.in-Some.ensures.keys in
    record {
      are = take.are;
      listed = take.uses ∙ ap (λ k. k.uses) c.in-Some.ensures.keys ∙ now.listed;
      come = λ accesses once same.
          let listed = ap (map as_use) now.listed ∙ same in
          let so_far = now.come accesses once same in
          let covered = sym (c.cover.ensures accesses listed) ∙ c.if-cover.false in
          let chosen = c.in-Some.ensures.best ∙ ap (λ us. least_bound (filter (may_add normal set) us)) listed in
          let member = chosen_member (may_add normal set) (uses normal accesses) (as_use found) chosen in (
            record {
              bound = plan_bound normal accesses once start set steps found member set2 steps2 grown pushed so_far.0.bound;
              live = plan_live normal accesses once start set steps found member set2 steps2 grown pushed so_far.0.live;
            },
            plan_left normal accesses once start set steps found member set2 steps2 grown pushed
                normal.count c.loop-turn._turn c.loop-turn-test.true so_far.1 covered (sym chosen),
          );
    }

pub returns-clause-come : goal.returns-clause-come
returns-clause-come c = λ accesses once same.
    let now = c.loop-turn.invariant in
    let so_far = now.come accesses once same in
    by_bool c.cover-2.result (is_covered c.args.block.now accesses c.loop-turn.candidates.keys.set.items)
    (c.cover-2.ensures accesses (ap (map as_use) now.listed ∙ same))
    (λ h. (
      so_far.0,
      left_done c.args.block.now accesses c.args.candidates.now.keys.set.items c.loop-turn.candidates.keys.set.items c.loop-turn.steps
          c.args.block.now.count c.loop-turn._turn c.loop-turn.auto._turn-end so_far.1 h,
    ))
    (λ h. left_out c.args.block.now accesses c.args.candidates.now.keys.set.items c.loop-turn.candidates.keys.set.items c.loop-turn.steps
    c.args.block.now.count c.loop-turn._turn c.loop-turn.auto._turn-end so_far.1 h c.loop-turn-test.false)
