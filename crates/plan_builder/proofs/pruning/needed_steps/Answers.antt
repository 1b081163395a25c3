use Rattle.std.proofs.Common.{◌≡◌, ◌∙◌, List, ap, arith, map, subst}
use Rattle.std.specs.Result.{IfOk}
use Rattle.beas_core.specs.declared.plan.DStep.{DStep}
use Rattle.beas_core.specs.Coverage.{start_classes}
use Rattle.beas_core.specs.Derivations.{use_of}
use Rattle.attribute_closure.specs.Uses.{as_use}
use Rattle.plan_builder.specs.Trials.{are_sound, steps_from, uses_pruned}
use Rattle.plan_builder.proofs.Drops.{left_by_uses, sound_by_uses}
use Rattle.plan_builder.proofs.Needed.{all_stay}
use Rattle.plan_builder.proofs.pruning.needed_steps.Goals as goal

pub prune-requires-clause-sound : goal.prune-requires-clause-sound
prune-requires-clause-sound c =
    let normal = c.args.block.now in
    let start = start_classes normal c.args.guided in
    ap (λ set. are_sound normal set (map as_use c.in_ok-uses.uses)) (c.deref.ensures.value ∙ c.in_ok-set.ensures)
    ∙ ap (are_sound normal start) (c.in_ok-uses.ensures ∙ ap (map (use_of c.args.accesses.now)) c.as_slice.ensures)
    ∙ sound_by_uses normal c.args.accesses.now start c.args.steps c.requires.sound

pub returns-then-len : goal.returns-then-len
returns-then-len c =
    let few = c.if-len.true in
    let steps = c.len.ensures in
    let atoms = c.len-2.ensures in
    all_stay c.args.block.now (start_classes c.args.block.now c.args.guided) c.args.accesses.now c.args.steps c.requires.sound
    (omega (arith, few, steps, atoms))

pub returns : goal.returns
returns c =
    let normal = c.args.block.now in
    let start = start_classes normal c.args.guided in
    subst (λ (ss : List DStep). IfOk c.steps_of.result (λ left. left ≡ ss))
    (ap (λ set. steps_from normal set (map as_use c.as_slice-2.result.now)) (c.deref_mut.ensures.value ∙ c.in_ok-set.ensures)
    ∙ ap (steps_from normal start) (ap (map as_use) c.as_slice-2.ensures ∙ c.in_ok-left.ensures
    ∙ ap (λ set. uses_pruned normal set (map as_use c.in_ok-uses.uses)) (c.deref.ensures.value ∙ c.in_ok-set.ensures)
    ∙ ap (uses_pruned normal start) (c.in_ok-uses.ensures ∙ ap (map (use_of c.args.accesses.now)) c.as_slice.ensures))
    ∙ left_by_uses normal c.args.accesses.now start c.args.steps c.requires.sound) c.steps_of.ensures
