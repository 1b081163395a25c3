use Rattle.std.proofs.Common.{Some, refl, sym, ◌∙◌}
use Rattle.sql_text.specs.declared.tree.ColumnRef.{ColumnRef}
use Rattle.name_resolution.specs.Meanings.{named_by}
use Rattle.name_resolution.proofs.FewFacts.{found_to_named, found_to_other}
use Rattle.name_resolution.proofs.names.find_with_alias.Goals as goal
use Rattle.name_resolution.proofs.names.find_with_alias.Goals.{then-is_text, else-is_text}

pub loop-number-init : goal.loop-number-init
unfolding named_by
loop-number-init c = refl

pub loop-number-preserved : goal.loop-number-preserved
loop-number-preserved c =
    let ref : ColumnRef = record { table = Some c.args.alias.now; column = c.args.name.now } in elim c.if-is_text.branch [
      | then-is_text w ↦ w.found-is ∙ w.found_or_more-found.ensures
          ∙ found_to_named c.args.atoms.now c.loop-number.number c.index-atoms-number.result ref _ _ c.loop-number-test.true
          c.index-atoms-number.is (sym c.is_text.ensures ∙ w.if-is_text.true) c.loop-number.invariant w.find_in.ensures
      | else-is_text w ↦ w.found-is
          ∙ found_to_other c.args.atoms.now c.loop-number.number c.index-atoms-number.result ref _ c.loop-number-test.true
          c.index-atoms-number.is (sym c.is_text.ensures ∙ w.if-is_text.false) c.loop-number.invariant
    ]
