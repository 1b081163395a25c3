use Rattle.std.proofs.Common.{subst}
use Rattle.beas_library.specs.Engines.{HasLeft}
use Rattle.beas_library.proofs.LeftFacts.{left_dropped}
use Rattle.beas_library.proofs.engine.Engine.carry_out.Goals as goal

pub returns-in-Err-clause-left : goal.returns-in-Err-clause-left
returns-in-Err-clause-left g c =
    let before = c.args.self.now in
    subst (λ tokens. HasLeft tokens before (record before { desk = c.drop_query.new.self; files = c.report_on.new.files }) c.args.steps.now c.report_on.new.steps)
    c.tokens.ensures.tokens
    (left_dropped c.tokens.result.now before c.report_on.new.desk c.drop_query.new.self c.report_on.new.files c.args.steps.now c.report_on.new.steps
    c.in-Err.ensures.left c.in-Err.ensures.desk c.report_on.ensures.later c.drop_query.ensures.dropped)
