use Rattle.std.proofs.Common.{◌≡◌, ◌∙◌, None, Some, ap, length, sym, true}
use Rattle.beas_core.specs.Coverage.{covered_set, own_reason, reason, start_classes}
use Rattle.beas_core.proofs.StartFacts.{start_counted}
use Rattle.plan_builder.proofs.PreparationFacts.{none_alone, reason_from}
use Rattle.plan_builder.proofs.uncovered.block_reason.Goals as goal

pub close_from-requires-clause-classes : goal.close_from-requires-clause-classes
close_from-requires-clause-classes c = ap length (c.deref.ensures.value ∙ c.in_ok-start.ensures) ∙ start_counted c.args.normal.now true

pub returns-in-None : goal.returns-in-None
returns-in-None c =
    let normal = c.args.normal.now in
    let accesses = c.args.accesses.now in
    let own : own_reason normal accesses ≡ None =
    sym (c.why_not.ensures ∙ ap (λ a. reason normal a c.as_slice-2.result.now) c.as_slice.ensures
    ∙ ap (reason normal accesses) (c.as_slice-2.ensures ∙ c.in_ok-own.ensures)) ∙ c.in-None.is in
    sym (none_alone normal accesses c.args.has_guide own)

pub returns : goal.returns
returns c =
    let normal = c.args.normal.now in
    let accesses = c.args.accesses.now in
    let own : own_reason normal accesses ≡ Some c.in-Some.why =
    sym (c.why_not.ensures ∙ ap (λ a. reason normal a c.as_slice-2.result.now) c.as_slice.ensures
    ∙ ap (reason normal accesses) (c.as_slice-2.ensures ∙ c.in_ok-own.ensures)) ∙ c.in-Some.is in
    c.why_not-2.ensures ∙ ap (λ a. reason normal a c.as_slice-4.result.now) c.as_slice-3.ensures
    ∙ ap (reason normal accesses) (c.as_slice-4.ensures ∙ c.in_ok-covered.ensures ∙ ap (covered_set normal accesses) (c.deref.ensures.value ∙ c.in_ok-start.ensures))
    ∙ sym (reason_from normal accesses c.args.has_guide c.in-Some.why own
    ∙ ap (λ g. reason normal accesses (covered_set normal accesses (start_classes normal g))) c.if-not-has_guide.false)
