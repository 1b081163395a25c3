use Rattle.std.proofs.Common.{◌∙◌, sym}
use Rattle.beas_core.proofs.ReasonFacts.{reason-covered}
use Rattle.plan_builder.proofs.Turns.{not_covered}
use Rattle.plan_builder.proofs.derivations.covers.Goals as goal

pub returns-in-None : goal.returns-in-None
returns-in-None c = sym (reason-covered c.args.block.now c.args.accesses.now c.args.set.now (sym c.why_not.ensures ∙ c.in-None.is))

pub returns-in-Some : goal.returns-in-Some
returns-in-Some c = sym (not_covered c.args.block.now c.args.accesses.now c.args.set.now c.in-Some._why (sym c.why_not.ensures ∙ c.in-Some.is))
