use Rattle.beas_laws.proofs.StatementFacts.{statement_tells}
use Rattle.beas_laws.proofs.files.law_unreadable_statement.Goals as goal

pub returns : goal.returns
returns c = λ settings db statement outcome. statement_tells settings db statement outcome
