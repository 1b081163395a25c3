use Rattle.std.proofs.Common.{◌∙◌, ap, sym, subst, take, Some, arith}
use Rattle.std.specs.Option.{is_some}
use Rattle.std.proofs.lemmas.List.{take_all}
use Rattle.beas_core.specs.declared.refusal.Refusal.TheVariants.{DuplicateName}
use Rattle.name_resolution.specs.Meanings.{sources}
use Rattle.name_resolution.specs.Scopes.{found_at, IsScope}
use Rattle.name_resolution.proofs.AliasFacts.{repeated_here, fresh_here, none_repeated, sources_to, count_to}
use Rattle.name_resolution.proofs.ScopeFacts.{names_are}
use Rattle.name_resolution.proofs.scope.scope_of.Goals as goal

pub returns-then-contains_key-clause-repeated : goal.returns-then-contains_key-clause-repeated
returns-then-contains_key-clause-repeated c =
    repeated_here c.args.catalogue.now c.args.items.now c.loop-atom.atom c.index-items-atom.result c.loop-atom-test.true c.index-items-atom.is
    (sym (c.loop-atom.invariant.so_far.aliases c.index-items-atom.result.alias) ∙ ap (λ n. is_some (found_at c.loop-atom.scope.atoms n))
    (sym c.as_str.ensures)
    ∙ sym c.contains_key.ensures ∙ c.if-contains_key.true)
    c.loop-atom.invariant.once
    ∙ ap (λ n. Some (DuplicateName n)) (sym c.in_ok-copy.ensures)

pub loop-atom-preserved : goal.loop-atom-preserved
loop-atom-preserved c =
    let fresh = sym (c.loop-atom.invariant.so_far.aliases c.index-items-atom.result.alias)
    ∙ ap (λ n. is_some (found_at c.loop-atom.scope.atoms n)) (sym c.as_str.ensures)
    ∙ sym c.contains_key.ensures ∙ c.if-contains_key.false in
    record {
      so_far = subst (λ atoms. IsScope atoms c.add.new.self)
          (sources_to c.args.catalogue.now c.args.items.now c.loop-atom.atom c.index-items-atom.result _ _ c.loop-atom-test.true c.index-items-atom.is
          c.as_str-in-loop-atom.ensures c.columns_named.ensures.columns)
          (c.in_ok-add.ensures (sources c.args.catalogue.now (take c.loop-atom.atom c.args.items.now))
          (count_to c.args.catalogue.now c.args.items.now c.loop-atom.atom c.loop-atom-test.true)
          c.loop-atom.invariant.so_far (rw c.as_str-in-loop-atom.ensures fresh));
      once = fresh_here c.args.catalogue.now c.args.items.now c.loop-atom.atom c.index-items-atom.result c.loop-atom-test.true c.index-items-atom.is fresh
          c.loop-atom.invariant.once;
    }

pub returns-clause-names : goal.returns-clause-names
returns-clause-names c =
    names_are c.loop-atom.scope (sources c.args.catalogue.now c.args.items.now)
    (subst (λ items. IsScope (sources c.args.catalogue.now items) c.loop-atom.scope) (take_all c.loop-atom.atom c.args.items.now
    (omega arith)) c.loop-atom.invariant.so_far)

pub returns-clause-repeated : goal.returns-clause-repeated
returns-clause-repeated c = none_repeated c.args.items.now c.loop-atom.atom c.loop-atom.invariant.once (omega arith)
