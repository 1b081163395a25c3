use Rattle.specialise.proofs.Noted.{needed_step, needed_end}
use Rattle.specialise.proofs.candidates.note_needed.Goals as goal

pub loop-number-preserved : goal.loop-number-preserved
loop-number-preserved c =
    needed_step c.args.block.now c.args.asked.now c.loop-number.asked c.note_columns.new.asked c.as_slice-columns-items.result.now c.loop-number.number
    c.columns-item.result c.as_slice.result.now c.as_slice-columns-items.ensures c.loop-number-test.true c.columns-item.is c.as_slice.ensures
    c.loop-number.invariant c.note_columns.ensures

pub returns : goal.returns
returns c =
    needed_end c.args.block.now c.args.asked.now c.loop-number.asked c.as_slice-columns-items.result.now c.loop-number.number
    c.as_slice-columns-items.ensures c.loop-number-test.false c.loop-number.invariant
