use Rattle.std.proofs.Common.{◌∙◌, ap, sym, Some, arith}
use Rattle.std.specs.List.{list_any}
use Rattle.std.specs.Str.{bytes_eq}
use Rattle.beas_core.specs.declared.refusal.Refusal.TheVariants.{DuplicateName}
use Rattle.name_resolution.specs.Meanings.{Source}
use Rattle.name_resolution.proofs.AliasFacts.{repeated_here, fresh_here, none_repeated, sources_to}
use Rattle.name_resolution.proofs.FewFacts.{aliases_among, source_added, atoms_added}
use Rattle.name_resolution.proofs.names.atoms_in_order.Goals as goal

pub returns-then-has_alias-clause-repeated : goal.returns-then-has_alias-clause-repeated
returns-then-has_alias-clause-repeated c =
    let name = c.item-item.result.alias in
    repeated_here c.args.catalogue.now c.args.items.now c.loop-item.item-index c.item-item.result c.loop-item-test.true c.item-item.is
    (ap (list_any (λ (s : Source). bytes_eq s.alias name)) (sym c.loop-item.invariant.so_far) ∙ aliases_among c.loop-item.atoms.items name
    ∙ ap (list_any (λ a. bytes_eq a.alias.now name)) (sym c.deref.ensures.value)
    ∙ ap (λ n. list_any (λ a. bytes_eq a.alias.now n) c.deref.result.now) (sym c.as_str.ensures)
    ∙ sym c.has_alias.ensures ∙ c.if-has_alias.true)
    c.loop-item.invariant.once
    ∙ ap (λ n. Some (DuplicateName n)) (sym c.in_ok-copy.ensures)

pub loop-item-preserved : goal.loop-item-preserved
loop-item-preserved c =
    let name = c.item-item.result.alias in
    let fresh = ap (list_any (λ (s : Source). bytes_eq s.alias name)) (sym c.loop-item.invariant.so_far) ∙ aliases_among c.loop-item.atoms.items name
    ∙ ap (list_any (λ a. bytes_eq a.alias.now name)) (sym c.deref.ensures.value)
    ∙ ap (λ n. list_any (λ a. bytes_eq a.alias.now n) c.deref.result.now) (sym c.as_str.ensures)
    ∙ sym c.has_alias.ensures ∙ c.if-has_alias.false in
    record {
      so_far = source_added c.loop-item.atoms.items c.push.new.self.items _ _ c.in_ok-push.ensures.items c.loop-item.invariant.so_far
          ∙ sources_to c.args.catalogue.now c.args.items.now c.loop-item.item-index c.item-item.result _ _ c.loop-item-test.true c.item-item.is
          c.named_atom.ensures.alias c.named_atom.ensures.columns;
      atoms = atoms_added c.args.catalogue.now c.loop-item.atoms.items c.push.new.self.items _ c.args.items.now c.loop-item.item-index c.item-item.result
          c.loop-item-test.true c.item-item.is c.in_ok-push.ensures.items c.loop-item.invariant.atoms c.named_atom.ensures.atom;
      once = fresh_here c.args.catalogue.now c.args.items.now c.loop-item.item-index c.item-item.result c.loop-item-test.true c.item-item.is fresh
          c.loop-item.invariant.once;
    }

pub returns-clause-repeated : goal.returns-clause-repeated
returns-clause-repeated c = none_repeated c.args.items.now c.loop-item.item-index c.loop-item.invariant.once (omega arith)
