use Rattle.std.proofs.Common.{◌≡◌, ◌∙◌, Some, false, sym, true}
use Rattle.beas_core.specs.Coverage.{constant_classes, start_classes}
use Rattle.beas_core.specs.Pruning.{derivation}
use Rattle.beas_core.proofs.StartFacts.{start_counted}
use Rattle.plan_builder.proofs.PreparationFacts.{planned_alone, planned_guided, reason_guided}
use Rattle.plan_builder.proofs.Turns.{not_some, why_there}
use Rattle.plan_builder.proofs.preparation.plan_normal.Goals as goal

pub returns-in-Some : goal.returns-in-Some
returns-in-Some c =
    planned_alone c.args.normal.now c.args.accesses.now c.requires.ids c.requires.ranges c.args.has_guide c.in-Some.steps
    (sym c.in_ok-steps.ensures ∙ c.in-Some.is)

pub returns-in-Ok : goal.returns-in-Ok
returns-in-Ok c =
    let normal = c.args.normal.now in
    let accesses = c.args.accesses.now in
    let none = sym c.in_ok-steps.ensures ∙ not_some c.in_ok-steps.field-0 c.in_default.not-Some in
    let out = why_there normal accesses (constant_classes normal) c.requires.ranges (start_counted normal false) none in
    let found : derivation normal accesses (start_classes normal true) ≡ Some c.in-Ok.derivation.steps = rw c.in-Ok.is at c.in_ok-derivation.ensures in
    planned_guided normal accesses c.requires.ids c.requires.ranges c.args.has_guide out.0 out.1 c.if-not-has_guide.false
    c.in-Ok.derivation.steps found

pub returns-in-Err : goal.returns-in-Err
returns-in-Err c =
    let normal = c.args.normal.now in
    let accesses = c.args.accesses.now in
    let none = sym c.in_ok-steps.ensures ∙ not_some c.in_ok-steps.field-0 c.in_default.not-Some in
    let out = why_there normal accesses (constant_classes normal) c.requires.ranges (start_counted normal false) none in
    let found = rw c.in-Err.is at c.in_ok-derivation.ensures in
    reason_guided normal accesses c.requires.ids c.requires.ranges c.args.has_guide out.0 out.1 c.if-not-has_guide.false c.in-Err.why found.1
