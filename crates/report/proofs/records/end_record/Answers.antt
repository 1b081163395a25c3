use Rattle.report.proofs.WriterFacts.{record_ended}
use Rattle.report.proofs.records.end_record.Goals as goal

pub returns : goal.returns
returns g c before fields stands =
    let e = c.in_default.ensures in
    record_ended g.W.Write.contents c.args.writer.now c.end_record.new.self before fields stands e.same e.fields e.wrote e.bytes
