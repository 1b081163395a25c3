use Rattle.std.proofs.Common.{◌++◌, ◌∙◌, List, ℕ, ap}
use Rattle.std.proofs.lemmas.Result.{IfOk-equal}
use Rattle.csv.specs.Writing.{writer_under}
use Rattle.report.proofs.WriterFacts.{records_lent}
use Rattle.report.proofs.records.push_written.Goals as goal

pub unreachable-requires : goal.unreachable-requires
unreachable-requires g c =
    let records = records_lent c.deref_mut.result.now c.write_record.new.writer c.deref_mut-2.result.now c.write_rows.new.writer
    c.deref_mut-3.result.now c.flush.new.self _ _ _ c.as_slice.result.now
    (cc (c.deref_mut.ensures.value, c.new-writer.ensures, c.from_writer.ensures.cfg, c.flexible.ensures, c.new.ensures))
    (cc (c.deref_mut.ensures.value, c.new-writer.ensures, c.from_writer.ensures.fields))
    (cc (c.deref_mut.ensures.value, c.new-writer.ensures, c.from_writer.ensures.wrote))
    (cc (c.deref_mut.ensures.value, c.new-writer.ensures, c.from_writer.ensures.empty))
    (ap writer_under (c.deref_mut.ensures.value ∙ c.new-writer.ensures) ∙ c.from_writer.ensures.wtr) c.requires
    c.in_ok-write_record.ensures (cc c.deref_mut-2.ensures.value) c.in_ok-write_rows.ensures (cc c.deref_mut-3.ensures.value)
    c.in_default.ensures.bytes c.in_default.ensures.pending (cc (c.as_slice.ensures.value, c.get_ref.ensures, c.deref.ensures)) in
    c.in-Err-from_utf8.ensures.cases.0 records.1

pub returns : goal.returns
returns g c =
    let records = records_lent c.deref_mut.result.now c.write_record.new.writer c.deref_mut-2.result.now c.write_rows.new.writer
    c.deref_mut-3.result.now c.flush.new.self _ _ _ c.as_slice.result.now
    (cc (c.deref_mut.ensures.value, c.new-writer.ensures, c.from_writer.ensures.cfg, c.flexible.ensures, c.new.ensures))
    (cc (c.deref_mut.ensures.value, c.new-writer.ensures, c.from_writer.ensures.fields))
    (cc (c.deref_mut.ensures.value, c.new-writer.ensures, c.from_writer.ensures.wrote))
    (cc (c.deref_mut.ensures.value, c.new-writer.ensures, c.from_writer.ensures.empty))
    (ap writer_under (c.deref_mut.ensures.value ∙ c.new-writer.ensures) ∙ c.from_writer.ensures.wtr) c.requires
    c.in_ok-write_record.ensures (cc c.deref_mut-2.ensures.value) c.in_ok-write_rows.ensures (cc c.deref_mut-3.ensures.value)
    c.in_default.ensures.bytes c.in_default.ensures.pending (cc (c.as_slice.ensures.value, c.get_ref.ensures, c.deref.ensures)) in
    IfOk-equal _ _ _ _ c.push_str.ensures.ok (ap (λ (ys : List ℕ). c.args.text.now ++ ys) (c.in-Ok.ensures.cases.0 ∙ records.0))
