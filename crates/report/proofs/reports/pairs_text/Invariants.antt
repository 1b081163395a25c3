use Rattle.std.proofs.Common.{◌≡◌, ◌++◌, drop}
use Rattle.std.specs.List.{flat_map}
use Rattle.report.specs.Reports.{pair_line}
use Rattle.report.proofs.reports.pairs_text.Given as goal

-- the lines so far and then those of the pairs left are the whole
abbrev pub invariant-loop-first : goal.invariant-loop-first
invariant-loop-first l = l.text ++ flat_map (pair_line l.number) (drop l.first-index l.found) ≡ flat_map (pair_line l.number) l.found
