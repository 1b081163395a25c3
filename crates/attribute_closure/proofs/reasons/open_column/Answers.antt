use Rattle.std.proofs.Common.{◌∙◌, sym}
use Rattle.beas_core.specs.Coverage.{is_open}
use Rattle.attribute_closure.proofs.Searches.{place_of, find_map_more, find_map_there}
use Rattle.attribute_closure.proofs.reasons.open_column.Goals as goal

pub returns-then-is_open_at : goal.returns-then-is_open_at
returns-then-is_open_at c =
    sym (find_map_there (is_open c.args.block.now c.args.set.now) (place_of c.args.atom) c.args.columns.now c.loop-column.column-index
    (record { 0 = 0 }) c.loop-column-test.true c.loop-column.invariant
    (sym c.is_open_at.ensures ∙ c.if-is_open_at.true))

pub loop-column-preserved : goal.loop-column-preserved
loop-column-preserved c =
    find_map_more (is_open c.args.block.now c.args.set.now) (place_of c.args.atom) c.args.columns.now c.loop-column.column-index
    (record { 0 = 0 }) c.loop-column-test.true c.loop-column.invariant
    (sym c.is_open_at.ensures ∙ c.if-is_open_at.false)
