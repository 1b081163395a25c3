use Rattle.std.proofs.Common.{◌≡◌, ◌++◌, drop}
use Rattle.std.specs.List.{flat_map}
use Rattle.report.specs.Plans.{scan_line}
use Rattle.report.proofs.plans.scans_text.Given as goal

-- the lines so far and then those of the scans left are the whole
abbrev pub invariant-loop-scan : goal.invariant-loop-scan
invariant-loop-scan l = l.text ++ flat_map (scan_line l.catalogue) (drop l.scan-index l.scans) ≡ flat_map (scan_line l.catalogue) l.scans
