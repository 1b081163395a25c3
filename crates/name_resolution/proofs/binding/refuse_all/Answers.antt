use Rattle.std.proofs.Common.{sym, ◌∙◌, ap, subst}
use Rattle.std.specs.List.{flat_map}
use Rattle.beas_core.specs.Results.{IsRefusedAs}
use Rattle.name_resolution.specs.Binding.{places_in_all}
use Rattle.name_resolution.specs.Refusing.{first}
use Rattle.name_resolution.proofs.FlawFacts.{other_kinds, other_refusals}
use Rattle.name_resolution.proofs.binding.refuse_all.Goals as goal

pub returns : goal.returns
returns c =
    subst (λ whys. IsRefusedAs c.refuse_kinds-2.result (first whys))
    (ap (λ shape. flat_map (places_in_all c.args.limits.now shape c.args.blocks.now) other_kinds) c.shape_of-2.ensures
    ∙ other_refusals c.args.limits.now c.args.blocks.now (sym c.any_block_has_flaw.ensures ∙ c.if-any_block_has_flaw.false))
    c.refuse_kinds-2.ensures
