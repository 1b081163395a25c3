use Rattle.std.proofs.Common.{◌∙◌}
use Rattle.report.specs.Reports.{place_line}
use Rattle.report.proofs.ReportFacts.{lines_next}
use Rattle.report.proofs.reports.places_text.Goals as goal

pub loop-place-preserved : goal.loop-place-preserved
loop-place-preserved c =
    lines_next (place_line c.args.number) c.args.places.now c.as_slice-place-items.result.now c.loop-place.place-index c.place-item.result c.loop-place.text
    c.as_str.result.now c.push_str.new.self _ c.as_slice-place-items.ensures c.loop-place-test.true c.place-item.is
    (c.as_str.ensures ∙ c.in_ok-line.ensures) c.in_ok-push_str.ensures.ok c.loop-place.invariant
