use Rattle.std.proofs.Common.{◌≡◌, ◌<◌, ◌∙◌, List, [], ap, arith, get_or, length, subst, sym}
use Rattle.std.proofs.lemmas.List.{get_or_default}
use Rattle.beas_core.specs.declared.plan.Derivation.{Derivation}
use Rattle.beas_core.specs.declared.plan.Normal.{Normal}
use Rattle.plan_data.specs.Named.{BlockIsNamed}
use Rattle.plan_data.proofs.NamedFacts.{named}
use Rattle.plan_data.proofs.plan.write_blocks.Goals as goal

-- the derivation past the last one
abbrev no_plan : Derivation
no_plan = record { steps = [] }

pub write_block-requires : goal.write_block-requires
write_block-requires c =
    let schema = c.args.catalogue.now in
    let prepared = c.args.prepared.now in
    let n = c.loop-n.n in
    let normal = c.normal-item.result in
    let plan = c.index-plans-n.result in
    let many = ap length c.as_slice-normal-items.ensures in
    let below : n < length prepared.normals = omega (arith, c.loop-n-test.true, many) in
    let normal_is : normal ≡ get_or prepared.normals n normal =
    c.normal-item.is ∙ ap (λ (xs : List Normal). get_or xs n normal) c.as_slice-normal-items.ensures in
    let plan_is : plan ≡ get_or prepared.derivations n no_plan =
    c.index-plans-n.is ∙ ap (λ (xs : List Derivation). get_or xs n plan) c.as_slice-plans.ensures
    ∙ get_or_default prepared.derivations n plan no_plan (omega (arith, below, c.requires.well_formed.derivations)) in
    subst (λ x. BlockIsNamed schema x plan) (sym normal_is)
    (subst (BlockIsNamed schema (get_or prepared.normals n normal)) (sym plan_is)
    (named schema prepared c.recall_soundness.ensures c.requires n normal below))
