use Rattle.std.proofs.Common.{◌∙◌}
use Rattle.reference_evaluation.proofs.KeyFacts.{keys_are}
use Rattle.reference_evaluation.proofs.keys.keys_for.Goals as goal

pub returns : goal.returns
returns c =
    let block = c.args.block.now in
    c.distinct_rows.ensures
    ∙ keys_are block.normal.now block.accesses.now c.args.step.now c.args.set.now c.args.found.now c.in_ok-keys.keys c.key_columns-key.result.now
    c.deref.result.now c.deref-2.result.now
    c.key_columns-key.ensures
    (c.deref-2.ensures.value ∙ c.in_ok-key_classes.ensures)
    (c.deref.ensures.value ∙ c.in_ok-classes.ensures)
    c.in_ok-keys.ensures
