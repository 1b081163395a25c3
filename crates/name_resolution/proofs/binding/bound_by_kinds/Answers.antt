use Rattle.std.proofs.Common.{[], ◌++◌, sym, ◌∙◌, ap}
use Rattle.std.specs.List.{flat_map}
use Rattle.std.proofs.lemmas.Result.{err_from_is_err_and}
use Rattle.name_resolution.specs.Binding.{blocks_of, refusals, looked_refusals}
use Rattle.name_resolution.specs.LookedUp.{looked_up, bound_block}
use Rattle.name_resolution.specs.Refusing.{first, unknown_tables, repeated_aliases}
use Rattle.name_resolution.proofs.BindFacts.{blocks_small, conditions_few, blocks_are}
use Rattle.name_resolution.proofs.FirstFacts.{err_first, err_second, first_none}
use Rattle.name_resolution.proofs.binding.bound_by_kinds.Goals as goal

pub returns-in_err-blocks-clause-refused : goal.returns-in_err-blocks-clause-refused
unfolding refusals
returns-in_err-blocks-clause-refused c = let p = err_from_is_err_and c.from_residual.result c.from_residual.ensures.1 in rw (p.1, p.2)
    (err_first (Unit {0}) (Unit {0}) _ (flat_map (unknown_tables c.args.catalogue.now) (blocks_of c.args.tree.now) ++ flat_map repeated_aliases
    (blocks_of c.args.tree.now)) _ c.in_err-blocks.ensures.refused)

pub refuse_all-requires-clause-conditions : goal.refuse_all-requires-clause-conditions
refuse_all-requires-clause-conditions c =
    conditions_few c.args.catalogue.now (blocks_of c.args.tree.now) c.deref.result.now (c.deref.ensures.value
    ∙ c.in_ok-blocks.ensures.blocks) c.requires.conditions

pub returns-in_err-refuse_all-clause-refused : goal.returns-in_err-refuse_all-clause-refused
unfolding refusals
returns-in_err-refuse_all-clause-refused c =
    let p = err_from_is_err_and c.from_residual-in_err-refuse_all.result c.from_residual-in_err-refuse_all.ensures.1 in
    let is = c.deref.ensures.value ∙ c.in_ok-blocks.ensures.blocks in
    rw (p.1, p.2) (err_second (Unit {0}) (Unit {0}) _ (flat_map (unknown_tables c.args.catalogue.now) (blocks_of c.args.tree.now)
    ++ flat_map repeated_aliases (blocks_of c.args.tree.now)) _
    c.in_ok-blocks.ensures.refused (rw is at c.in_err-refuse_all.ensures))

pub bound_blocks-requires : goal.bound_blocks-requires
bound_blocks-requires c =
    blocks_small c.args.limits.now c.args.catalogue.now (blocks_of c.args.tree.now) c.deref-2.result.now (c.deref-2.ensures.value
    ∙ c.in_ok-blocks.ensures.blocks)
    c.args.limits.now.atoms_in_range.1 c.requires.schema
    (ap (λ blocks. first (looked_refusals c.args.limits.now blocks)) (c.deref-2.ensures.value ∙ sym c.deref.ensures.value) ∙ c.in_ok-refuse_all.ensures)

pub returns-clause-refused : goal.returns-clause-refused
unfolding refusals
returns-clause-refused c =
    first_none (flat_map (unknown_tables c.args.catalogue.now) (blocks_of c.args.tree.now) ++ flat_map repeated_aliases
    (blocks_of c.args.tree.now)) _ c.in_ok-blocks.ensures.refused
    ∙ ap (λ blocks. first (looked_refusals c.args.limits.now blocks)) (sym (c.deref.ensures.value ∙ c.in_ok-blocks.ensures.blocks))
    ∙ c.in_ok-refuse_all.ensures

pub returns-clause-query : goal.returns-clause-query
returns-clause-query c =
    (c.in_ok-join_blocks.ensures.query [] (λ b. bound_block (looked_up c.args.catalogue.now b))
    (blocks_are c.args.catalogue.now (blocks_of c.args.tree.now) c.in_ok-blocks.blocks.items c.deref-2.result.now c.in_ok-bound.bound.items
    c.in_ok-blocks.ensures.blocks c.deref-2.ensures.value c.in_ok-bound.ensures)).1
