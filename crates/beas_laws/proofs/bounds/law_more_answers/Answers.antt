use Rattle.beas_core.proofs.SizeFacts.{announced_more}
use Rattle.beas_laws.proofs.bounds.law_more_answers.Goals as goal

pub returns : goal.returns
returns c = λ n few many less. announced_more c.args.accesses.now c.args.guided.now c.args.plans.now n few many c.args.query.now less
