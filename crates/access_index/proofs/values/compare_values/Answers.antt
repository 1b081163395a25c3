use Rattle.std.proofs.Common.{sym, ◌∙◌, arith}
use Rattle.access_index.proofs.Reading.{ended_before}
use Rattle.access_index.proofs.values.compare_values.Goals as goal

pub returns-then-left-len : goal.returns-then-left-len
returns-then-left-len g c =
    sym (c.loop-i.invariant.rest ∙ ended_before c.args.left.now (g.W.Values.list c.args.right.now) c.loop-i.i (omega arith)
    (omega (arith, c.loop-i-test.false, c.if-left-len.true, c.len-len.ensures)))
