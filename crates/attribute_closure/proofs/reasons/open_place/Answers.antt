use Rattle.std.proofs.Common.{sym}
use Rattle.attribute_closure.proofs.Searches.{needed_there, needed_more, needed_end}
use Rattle.attribute_closure.proofs.reasons.open_place.Goals as goal

pub returns-in-Some : goal.returns-in-Some
returns-in-Some c =
    sym (needed_there c.args.block.now c.args.set.now c.as_slice-columns-items.result.now c.as_slice-columns-items.ensures c.loop-number.number
    c.columns-item.result c.loop-number-test.true c.columns-item.is c.loop-number.invariant
    c.as_slice.result.now c.as_slice.ensures c.in-Some.column (sym c.in-Some.ensures))

pub loop-number-preserved : goal.loop-number-preserved
loop-number-preserved c =
    needed_more c.args.block.now c.args.set.now c.as_slice-columns-items.result.now c.as_slice-columns-items.ensures c.loop-number.number
    c.columns-item.result c.loop-number-test.true c.columns-item.is c.loop-number.invariant
    c.as_slice.result.now c.as_slice.ensures (sym c.in_default.ensures)

pub returns : goal.returns
returns c =
    sym (needed_end c.args.block.now c.args.set.now c.as_slice-columns-items.result.now c.as_slice-columns-items.ensures c.loop-number.number
    c.loop-number-test.false c.loop-number.invariant)
