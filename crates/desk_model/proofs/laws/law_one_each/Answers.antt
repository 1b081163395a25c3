use Rattle.desk_model.proofs.OneEachFacts.{event-apart, wanting-apart}
use Rattle.desk_model.proofs.laws.law_one_each.Goals as goal

pub returns-clause-event : goal.returns-clause-event
returns-clause-event c = λ s state event outcome action apart is. event-apart state apart s event outcome action is

pub returns-clause-lost : goal.returns-clause-lost
returns-clause-lost c = λ state event apart. wanting-apart state apart event
