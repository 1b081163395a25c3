use Rattle.std.proofs.Common.{◌∙◌}
use Rattle.report.proofs.reports.place_text.Goals as goal

pub returns : goal.returns
returns c =
    let written = rw c.as_str.ensures at c.in_ok-format.ensures.ok in
    c.from_string.ensures ∙ written
