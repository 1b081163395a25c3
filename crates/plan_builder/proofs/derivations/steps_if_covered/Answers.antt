use Rattle.std.proofs.Common.{◌≡◌, ◌∙◌, None, Some, ap, length, sym, subst}
use Rattle.beas_core.specs.Coverage.{start_classes}
use Rattle.beas_core.specs.Derivations.{IsSound, greedy_steps}
use Rattle.beas_core.specs.Pruning.{pruned}
use Rattle.beas_core.proofs.SoundDerivations.{greedy_sound}
use Rattle.beas_core.proofs.StartFacts.{start_counted}
use Rattle.plan_builder.proofs.Turns.{derivation_none, derivation_some}
use Rattle.plan_builder.proofs.derivations.steps_if_covered.Goals as goal

pub greedy-requires-clause-classes : goal.greedy-requires-clause-classes
greedy-requires-clause-classes c =
    ap length (c.deref_mut.ensures.value ∙ c.in_ok-set.ensures) ∙ start_counted c.args.block.now c.args.guided

pub needed_steps-requires-clause-sound : goal.needed_steps-requires-clause-sound
needed_steps-requires-clause-sound c =
    let normal = c.args.block.now in
    let start = start_classes normal c.args.guided in
    let found : greedy_steps normal c.args.accesses.now start ≡ Some c.in-Some.steps =
    ap (greedy_steps normal c.args.accesses.now) (sym (c.deref_mut.ensures.value ∙ c.in_ok-set.ensures)) ∙ sym c.in_ok-steps.ensures ∙ c.in-Some.is in
    subst (λ a. IsSound normal a start c.in-Some.steps) (sym c.as_slice.ensures)
    (greedy_sound normal c.args.accesses.now c.requires.ids start c.in-Some.steps found)

pub returns-in-Some : goal.returns-in-Some
returns-in-Some c =
    let normal = c.args.block.now in
    let start = start_classes normal c.args.guided in
    let found : greedy_steps normal c.args.accesses.now start ≡ Some c.in-Some.steps =
    ap (greedy_steps normal c.args.accesses.now) (sym (c.deref_mut.ensures.value ∙ c.in_ok-set.ensures)) ∙ sym c.in_ok-steps.ensures ∙ c.in-Some.is in
    ap Some (c.in_ok-steps-in-Some.ensures ∙ ap (λ a. pruned normal a start c.in-Some.steps) c.as_slice.ensures)
    ∙ sym (derivation_some normal c.args.accesses.now start c.in-Some.steps found)

pub returns : goal.returns
returns c =
    let normal = c.args.block.now in
    let start = start_classes normal c.args.guided in
    let found : greedy_steps normal c.args.accesses.now start ≡ None =
    ap (greedy_steps normal c.args.accesses.now) (sym (c.deref_mut.ensures.value ∙ c.in_ok-set.ensures)) ∙ sym c.in_ok-steps.ensures ∙ c.in-None.is in
    sym (derivation_none normal c.args.accesses.now start found)
