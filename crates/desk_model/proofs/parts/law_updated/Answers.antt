use Rattle.desk_model.proofs.UpdateFacts.{untouched_stays}
use Rattle.desk_model.proofs.parts.law_updated.Goals as goal

pub returns : goal.returns
returns c = λ db update t once free. untouched_stays db update t once free
