use Rattle.std.proofs.Common.{◌∙◌, ◌++◌, ◌∷◌, [], Some, map, ap}
use Rattle.std.proofs.lemmas.List.{map-append}
use Rattle.beas_core.specs.declared.plan.Derivation.{Derivation}
use Rattle.plan_builder.proofs.preparation.plan_next.Goals as goal

pub returns-clause-derivations : goal.returns-clause-derivations
returns-clause-derivations c =
    let steps : Derivation → _ = λ (d : Derivation). Some d.steps in
    let before = c.args.plans.now.derivations in
    ap (map steps) c.in_ok-push_plan.ensures.derivations ∙ map-append steps before (c.in_ok-normal.plan.derivation ∷ [])
    ∙ ap (λ o. map steps before ++ o ∷ []) c.in_ok-normal.ensures.steps
