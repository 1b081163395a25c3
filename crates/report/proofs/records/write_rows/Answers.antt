use Rattle.std.proofs.Common.{◌≡◌, ◌∙◌, ◌+◌, ◌++◌, [], List, ap, append-nil, map, take, subst, sym}
use Rattle.std.specs.List.{flat_map}
use Rattle.std.proofs.lemmas.List.{flat_map_more, map_more}
use Rattle.report.specs.Records.{HasWritten}
use Rattle.report.specs.Reports.{record_line}
use Rattle.report.proofs.records.write_rows.Goals as goal

pub loop-row-init : goal.loop-row-init
loop-row-init g c before none = subst (λ ys. HasWritten g.W.Write.contents c.args.writer.now ys []) (sym (append-nil before)) none

pub loop-row-preserved : goal.loop-row-preserved
loop-row-preserved g c before none =
    let i = c.loop-row.row-index in
    let fields = λ (row : List g.row.F.Denot). map g.F.Field.field row in
    let so_far = map fields (take i c.args.rows.now) in
    let more = map_more fields c.args.rows.now i c.row-item.result c.loop-row-test.true in
    let next : (before ++ flat_map record_line so_far) ++ record_line (map g.F.Field.field c.as_slice.result.now)
    ≡ before ++ flat_map record_line (map fields (take (i + 1) c.args.rows.now)) =
    flat_map_more record_line before so_far (map g.F.Field.field c.as_slice.result.now)
    ∙ ap (λ lines. before ++ flat_map record_line lines) (cc (more, c.row-item.is, c.as_slice.ensures)) in
    subst (λ ys. HasWritten g.W.Write.contents c.write_record.new.writer ys []) next
    (c.in_ok-write_record.ensures (before ++ flat_map record_line so_far) (c.loop-row.invariant before none))
