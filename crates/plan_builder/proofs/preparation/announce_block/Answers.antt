use Rattle.std.proofs.Common.{◌≤◌, ◌∙◌, ap, get_or, subst, sym}
use Rattle.beas_core.specs.declared.plan.Sizes.{Sizes}
use Rattle.plan_builder.specs.Parts.{Grows}
use Rattle.plan_builder.proofs.PreparationFacts.{few_left}
use Rattle.plan_builder.proofs.preparation.announce_block.Goals as goal

pub returns-clause-rows : goal.returns-clause-rows
returns-clause-rows c =
    let plan = c.index-as_slice-number.result in
    let is = c.index-as_slice-number.is ∙ ap (λ ds. get_or ds c.args.number plan) c.as_slice.ensures in
    let grows = subst (Grows c.args.accesses.now) (sym is) (c.requires.grow c.args.number plan c.requires.derivation) in
    subst (λ (s : Sizes). s.last ≤ s.reads) (sym c.in_ok-sizes.ensures) (few_left c.args.accesses.now c.if-as_slice-number.first plan grows)
