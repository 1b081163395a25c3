use Rattle.beas_core.specs.Classes.{needed_columns}
use Rattle.reference_normal_form.proofs.ListSteps.{mapped_more, mapped_end}
use Rattle.reference_normal_form.proofs.needed.needed_columns_by_atom.Goals as goal

pub loop-number-preserved : goal.loop-number-preserved
loop-number-preserved c =
    mapped_more (λ a. needed_columns c.args.block.now a.0 a.1.width)
    c.args.block.now.atoms c.as_slice-atom-items.result.now c.as_slice-atom-items.ensures c.loop-number.number (record { table = record { 0 = 0 }; width = 0 })
    _ _ _
    c.loop-number-test.true c.loop-number.invariant c.in_ok-push.ensures.ok c.in_ok-needed_columns.ensures

pub returns : goal.returns
returns c =
    mapped_end (λ a. needed_columns c.args.block.now a.0 a.1.width)
    c.args.block.now.atoms c.as_slice-atom-items.result.now c.as_slice-atom-items.ensures c.loop-number.number _ c.loop-number-test.false
    c.loop-number.invariant
