use Rattle.std.proofs.Common.{◌∙◌}
use Rattle.report.specs.Reports.{report_text}
use Rattle.report.proofs.reports.text.Goals as goal

pub returns-in_ok-format-in-Opened : goal.returns-in_ok-format-in-Opened
unfolding report_text
returns-in_ok-format-in-Opened c = rw c.in-Opened.is (c.from_string-in-Opened.ensures ∙ c.in_ok-format-in-Opened.ensures.ok)
