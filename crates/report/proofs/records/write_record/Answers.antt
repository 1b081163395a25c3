use Rattle.std.proofs.Common.{arith, rules, ◌≡◌, ◌+◌, ◌<◌, ◌^◌, ◌++◌, ◌∷◌, [], length, map, take, subst, sym}
use Rattle.std.proofs.lemmas.List.{length-map, length-take, map_more, take_all}
use Rattle.std.proofs.lemmas.Result.{on_ok_weaker}
use Rattle.report.specs.Records.{HasWritten}
use Rattle.report.proofs.records.write_record.Goals as goal

pub loop-field-preserved : goal.loop-field-preserved
loop-field-preserved g c before none =
    let i = c.loop-field.field-index in
    let fields = map g.F.Field.field (take i c.args.fields.now) in
    let more = map_more g.F.Field.field c.args.fields.now i c.field-item.result c.loop-field-test.true in
    let next : map g.F.Field.field (take (i + 1) c.args.fields.now) ≡ fields ++ g.F.Field.field c.field-item.result ∷ [] = cc (more, c.field-item.is) in
    let fits : length c.args.fields.now < 2 ^ 64 = search rules in
    let count = length-map (take i c.args.fields.now) g.F.Field.field in
    let front = length-take i c.args.fields.now in
    let room : length fields + 1 < 2 ^ 64 = omega (arith, count, front, fits, c.loop-field-test.true) in
    subst (λ ys. HasWritten g.W.Write.contents c.write_to.new.writer before ys) (sym next)
    (c.in_ok-write_to.ensures before fields room (c.loop-field.invariant before none))

pub returns : goal.returns
returns g c =
    let all : take c.loop-field.field-index c.args.fields.now ≡ c.args.fields.now = take_all _ _ (omega (arith, c.loop-field-test.false)) in
    on_ok_weaker c.end_record.result (λ ended before none. rw all at (ended before _ (c.loop-field.invariant before none))) c.end_record.ensures
