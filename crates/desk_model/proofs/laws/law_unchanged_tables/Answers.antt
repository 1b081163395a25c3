use Rattle.desk_model.proofs.ChangeFacts.{keeps}
use Rattle.desk_model.proofs.laws.law_unchanged_tables.Goals as goal

pub returns : goal.returns
returns c = λ s db statement outcome t once none. (keeps db t once s statement outcome none).same
