use Rattle.std.proofs.Common.{Bor, ◌<◌, true, false, map, length, sym, ◌∙◌, arith}
use Rattle.beas_core.specs.declared.schema.Column.{Column}
use Rattle.csv.specs.Records.{fields_of}
use Rattle.csv_load.proofs.RowFacts.{mapped_at, bad_at}
use Rattle.csv_load.proofs.rows.bad_column.Goals as goal

abbrev now_of : Bor Column → Column
now_of column = column.now

pub returns-then-is_bad_at : goal.returns-then-is_bad_at
returns-then-is_bad_at c =
    let column = c.index-columns-place.result in
    let l : c.loop-place.place < length c.args.columns.now = omega arith in
    let here = mapped_at now_of c.args.columns.now c.loop-place.place column l c.index-columns-place.is in
    sym (bad_at c.args.longest (map now_of c.args.columns.now) (fields_of c.args.fields.now) c.loop-place.place column.now here true
    (sym c.is_bad_at.ensures ∙ c.if-is_bad_at.true))
    ∙ c.loop-place.invariant

pub loop-place-preserved : goal.loop-place-preserved
loop-place-preserved c =
    let column = c.index-columns-place.result in
    let l : c.loop-place.place < length c.args.columns.now = omega arith in
    let here = mapped_at now_of c.args.columns.now c.loop-place.place column l c.index-columns-place.is in
    bad_at c.args.longest (map now_of c.args.columns.now) (fields_of c.args.fields.now) c.loop-place.place column.now here false
    (sym c.is_bad_at.ensures ∙ c.if-is_bad_at.false)
    ∙ c.loop-place.invariant
