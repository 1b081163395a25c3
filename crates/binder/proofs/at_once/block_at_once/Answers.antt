use Rattle.std.proofs.Common.{◌≡◌, ◌≤◌, ◌==◌, length, map, ap, sym, ◌∙◌, subst, false, arith}
use Rattle.std.specs.List.{list_any}
use Rattle.std.proofs.lemmas.Result.{IfOk-weaker}
use Rattle.beas_core.specs.declared.query.Atom.{Atom}
use Rattle.name_resolution.specs.declared.found.NamedAtom.{NamedAtom}
use Rattle.name_resolution.specs.declared.names.Names.TheVariants.{Few}
use Rattle.name_resolution.specs.LookedUp.{IsSmall, atom_of}
use Rattle.name_resolution.specs.Meanings.{sources}
use Rattle.name_resolution.specs.Refusing.{first, repeated_among}
use Rattle.name_resolution.specs.Scopes.{source_of, told_by}
use Rattle.binder.proofs.AtOnceFacts.{bound_sound, none_refused, ref_small}
use Rattle.name_resolution.proofs.FewFacts.{few_names}
use Rattle.binder.proofs.at_once.block_at_once.Goals as goal

pub bound_over-requires-clause-small : goal.bound_over-requires-clause-small
bound_over-requires-clause-small c = λ ref.
    let schema = c.args.catalogue.now in
    let items = c.args.block.now.from_items in
    let few : length c.as_slice-items.result.now ≤ 16 =
    omega (arith, c.if-items-from.false, c.from.ensures, c.args.limits.now.atoms_in_range.1) in
    subst IsSmall
    (sym (few_names (map source_of c.in-Ok.named.items) (sources schema items) ref (c.in-Ok.ensures.sources ∙ ap (sources schema) c.as_slice-items.ensures)))
    (ref_small schema items c.requires (subst (λ (xs : _). length xs ≤ 16) c.as_slice-items.ensures few) ref)

pub returns-clause-made : goal.returns-clause-made
returns-clause-made c =
    let schema = c.args.catalogue.now in
    let items = c.args.block.now.from_items in
    IfOk-weaker c.bound_over.result _ _ (λ bound so made is.
    bound_sound c.args.limits.now schema c.args.block.now (told_by (Few c.in-Ok.named)) c.in_ok-atoms.atoms made
    (λ ref. few_names (map source_of c.in-Ok.named.items) (sources schema items) ref (c.in-Ok.ensures.sources ∙ ap (sources schema) c.as_slice-items.ensures))
    (c.in_ok-atoms.ensures ∙ ap (map (λ (a : NamedAtom). a.atom)) c.deref.ensures.value ∙ c.in-Ok.ensures.atoms
    ∙ ap (map (atom_of schema)) c.as_slice-items.ensures) (so made is)) c.bound_over.ensures

pub returns-clause-unrefused : goal.returns-clause-unrefused
returns-clause-unrefused c =
    let schema = c.args.catalogue.now in
    let items = c.args.block.now.from_items in
    let few : length c.as_slice-items.result.now ≤ c.args.limits.now.atoms = omega (arith, c.if-items-from.false, c.from.ensures) in
    let wide : list_any (λ (a : Atom). a.width == 0) c.in_ok-atoms.atoms ≡ false =
    ap (list_any (λ (a : Atom). a.width == 0)) (sym c.as_slice.ensures) ∙ sym c.any_is_empty.ensures ∙ c.if-any_is_empty.false in
    IfOk-weaker c.bound_over.result _ _ (λ bound so made is.
    none_refused c.args.limits.now schema c.args.block.now (told_by (Few c.in-Ok.named)) c.in_ok-atoms.atoms made
    (λ ref. few_names (map source_of c.in-Ok.named.items) (sources schema items) ref (c.in-Ok.ensures.sources ∙ ap (sources schema) c.as_slice-items.ensures))
    (c.in_ok-atoms.ensures ∙ ap (map (λ (a : NamedAtom). a.atom)) c.deref.ensures.value ∙ c.in-Ok.ensures.atoms
    ∙ ap (map (atom_of schema)) c.as_slice-items.ensures) (so made is)
    (sym (ap (λ xs. first (repeated_among xs)) c.as_slice-items.ensures) ∙ c.in-Ok.ensures.repeated) wide
    (subst (λ (xs : _). length xs ≤ c.args.limits.now.atoms) c.as_slice-items.ensures few)) c.bound_over.ensures
