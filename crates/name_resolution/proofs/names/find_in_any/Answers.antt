use Rattle.std.proofs.Common.{None, refl, ◌∙◌}
use Rattle.sql_text.specs.declared.tree.ColumnRef.{ColumnRef}
use Rattle.name_resolution.specs.Meanings.{named_by}
use Rattle.name_resolution.proofs.FewFacts.{found_to_named}
use Rattle.name_resolution.proofs.names.find_in_any.Goals as goal

pub loop-number-init : goal.loop-number-init
unfolding named_by
loop-number-init c = refl

pub loop-number-preserved : goal.loop-number-preserved
loop-number-preserved c =
    let ref : ColumnRef = record { table = None; column = c.args.name.now } in
    c.found_or_more-found.ensures
    ∙ found_to_named c.args.atoms.now c.loop-number.number c.index-atoms-number.result ref _ _ c.loop-number-test.true
    c.index-atoms-number.is refl c.loop-number.invariant c.find_in.ensures
