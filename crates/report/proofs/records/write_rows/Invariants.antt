use Rattle.std.proofs.Common.{◌++◌, List, ℕ, [], map, take}
use Rattle.std.specs.List.{flat_map}
use Rattle.report.specs.Records.{HasWritten}
use Rattle.report.specs.Reports.{record_line}
use Rattle.report.proofs.records.write_rows.Given as goal

-- the rows so far are written
abbrev pub invariant-loop-row : goal.invariant-loop-row
invariant-loop-row g l = (before : List ℕ) → HasWritten g.W.Write.contents l.fn.writer before []
    → HasWritten g.W.Write.contents l.writer (before ++ flat_map record_line (map (λ row. map g.F.Field.field row) (take l.row-index l.rows))) []
