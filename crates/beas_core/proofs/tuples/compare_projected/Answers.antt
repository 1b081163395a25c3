use Rattle.std.proofs.Common.{sym, ◌∙◌, arith, pos}
use Rattle.beas_core.specs.declared.value.Value.TheVariants.{Int}
use Rattle.beas_core.proofs.TupleOrder.{tuple_ends, columns_end}
use Rattle.beas_core.proofs.tuples.compare_projected.Goals as goal

pub returns-then-at-tuple : goal.returns-then-at-tuple
returns-then-at-tuple c =
    sym (c.loop-at.invariant.same ∙ tuple_ends c.args.tuple.now c.args.columns.now c.args.row.now c.loop-at.at (record { 0 = 0 }) (omega arith) (omega arith))

pub returns-then-columns-tuple : goal.returns-then-columns-tuple
returns-then-columns-tuple c =
    sym (c.loop-at.invariant.same ∙ columns_end c.args.tuple.now c.args.columns.now c.args.row.now c.loop-at.at (Int (pos 0)) (omega arith) (omega arith))
