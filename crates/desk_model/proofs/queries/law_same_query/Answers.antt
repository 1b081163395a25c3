use Rattle.desk_model.proofs.QueryFacts.{keeps_constraints, keeps_rows, query_stays}
use Rattle.desk_model.proofs.queries.law_same_query.Goals as goal

pub returns : goal.returns
returns c = λ before after old new prepared fits same.
    query_stays before after old new prepared fits (keeps_constraints before after old new prepared fits same)
    (keeps_rows before after old new prepared.query same)
