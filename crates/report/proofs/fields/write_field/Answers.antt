use Rattle.std.proofs.Common.{IsUtf8, rules}
use Rattle.report.proofs.WriterFacts.{field_more}
use Rattle.report.proofs.fields.write_field.Goals as goal

pub returns : goal.returns
returns g c before fields room stands =
    let e = rw c.as_bytes.ensures.value at c.in_default.ensures in
    let utf8 : IsUtf8 c.args.field.now = search rules in
    field_more g.W.Write.contents c.args.writer.now c.write_field.new.self before fields stands e.same c.args.field.now room utf8 e.count e.wrote e.stays e.text
