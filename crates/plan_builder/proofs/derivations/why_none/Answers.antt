use Rattle.std.proofs.Common.{◌∙◌, ap, length, sym}
use Rattle.beas_core.specs.Coverage.{covered_set, reason, start_classes}
use Rattle.beas_core.proofs.StartFacts.{start_counted}
use Rattle.plan_builder.proofs.Turns.{always_why}
use Rattle.plan_builder.proofs.derivations.why_none.Goals as goal

pub close_from-requires-clause-classes : goal.close_from-requires-clause-classes
close_from-requires-clause-classes c = ap length (c.deref.ensures.value ∙ c.in_ok-start.ensures) ∙ start_counted c.args.block.now c.args.guided

pub unreachable-requires : goal.unreachable-requires
unreachable-requires c =
    let normal = c.args.block.now in
    let accesses = c.args.accesses.now in
    let covered = c.as_slice-2.ensures ∙ c.in_ok-covered.ensures ∙ ap (covered_set normal accesses) (c.deref.ensures.value ∙ c.in_ok-start.ensures) in
    let why = ap (reason normal accesses) (sym covered)
    ∙ ap (λ a. reason normal a c.as_slice-2.result.now) (sym c.as_slice.ensures)
    ∙ sym c.why_not.ensures ∙ c.in-None.is in
    always_why normal accesses (start_classes normal c.args.guided) c.requires.ranges (start_counted normal c.args.guided) c.requires.none why
