use Rattle.std.proofs.Common.{Bor, ◌+◌, ◌++◌, ◌<◌, ap, sym, ◌∙◌, length, map, drop, arith}
use Rattle.std.specs.List.{filter_map}
use Rattle.csv.specs.Records.{fields_of}
use Rattle.beas_core.specs.declared.schema.Column.{Column}
use Rattle.csv_load.specs.CsvRows.{column_of}
use Rattle.csv_load.proofs.HeaderFacts.{given_all, lacks, pushed}
use Rattle.csv_load.proofs.header.in_file_order.Goals as goal

abbrev now_of : Bor Column → Column
now_of column = column.now

pub returns-in-None : goal.returns-in-None
returns-in-None c =
    let l : c.loop-place.place < length (fields_of c.args.header.now) = omega arith in
    sym c.loop-place.invariant.0 ∙ lacks (column_of c.args.columns.now) (fields_of c.args.header.now) c.loop-place.place l (sym c.in-None.ensures)

pub loop-place-preserved : goal.loop-place-preserved
loop-place-preserved c =
    let g = given_all (column_of c.args.columns.now) (fields_of c.args.header.now) c.loop-place.place c.in-Some.column.now (sym c.in-Some.ensures) in
    let rest = filter_map (column_of c.args.columns.now) (drop (c.loop-place.place + 1) (fields_of c.args.header.now)) in (
      g.0 ∙ c.loop-place.invariant.0,
      ap (λ items. map now_of items ++ rest) c.in_ok-push-in-Some.ensures.items
          ∙ pushed now_of c.loop-place.in_file.items c.in-Some.column rest
          ∙ ap (λ xs. map now_of c.loop-place.in_file.items ++ xs) (sym g.1)
          ∙ c.loop-place.invariant.1,
    )
