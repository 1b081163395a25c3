use Rattle.desk_model.proofs.QueryFacts.{full_stays}
use Rattle.desk_model.proofs.queries.law_same_answer.Goals as goal

pub returns : goal.returns
returns c = λ old new query kept. full_stays old new query kept
