use Rattle.std.proofs.Common.{List, ℕ, [], map, take}
use Rattle.report.specs.Records.{HasWritten}
use Rattle.report.proofs.records.write_record.Given as goal

-- the fields so far are those of the items so far
abbrev pub invariant-loop-field : goal.invariant-loop-field
invariant-loop-field g l = (before : List ℕ) → HasWritten g.W.Write.contents l.fn.writer before []
    → HasWritten g.W.Write.contents l.writer before (map g.F.Field.field (take l.field-index l.fields))
