use Rattle.aggregate.proofs.GroupFacts.{last_copy}
use Rattle.aggregate.proofs.columns.last_of.Goals as goal

pub returns-in-len1-up : goal.returns-in-len1-up
returns-in-len1-up c = last_copy c.copy.result c.args.values.now c.last-item.result c.in-len1-up.len_at_least c.last-item.is c.copy.ensures
