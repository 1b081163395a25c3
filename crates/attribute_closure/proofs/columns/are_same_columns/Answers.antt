use Rattle.std.proofs.Common.{arith}
use Rattle.attribute_closure.proofs.SameColumns.{column_more, columns_same}
use Rattle.attribute_closure.proofs.columns.are_same_columns.Goals as goal

pub loop-i-preserved : goal.loop-i-preserved
loop-i-preserved c = column_more c.args.one.now c.args.other.now c.loop-i.i (record { 0 = 0 }) c.loop-i-test.true
    (omega (arith, c.loop-i-test.true, c.if-one-other.false)) c.if-one-i.false c.loop-i.invariant

pub returns : goal.returns
returns c t = columns_same c.args.one.now c.args.other.now c.loop-i.i c.if-one-other.false c.loop-i-test.false c.loop-i.invariant
