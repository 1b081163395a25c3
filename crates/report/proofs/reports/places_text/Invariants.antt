use Rattle.std.proofs.Common.{◌≡◌, ◌++◌, drop}
use Rattle.std.specs.List.{flat_map}
use Rattle.report.specs.Reports.{place_line}
use Rattle.report.proofs.reports.places_text.Given as goal

-- the lines so far and then those of the places left are the whole
abbrev pub invariant-loop-place : goal.invariant-loop-place
invariant-loop-place l = l.text ++ flat_map (place_line l.number) (drop l.place-index l.places) ≡ flat_map (place_line l.number) l.places
