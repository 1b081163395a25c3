use Rattle.std.proofs.Common.{◌∙◌}
use Rattle.report.specs.Plans.{step_text}
use Rattle.report.proofs.plans.step_text.Goals as goal

pub returns : goal.returns
unfolding step_text
returns c = c.from_string.ensures ∙ c.in_ok-format.ensures.ok
