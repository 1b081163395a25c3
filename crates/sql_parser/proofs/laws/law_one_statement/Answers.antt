use Rattle.sql_parser.proofs.StatementIsRead.{one_statement}
use Rattle.sql_parser.proofs.laws.law_one_statement.Goals as goal

pub returns : goal.returns
returns c = λ tokens s t h k. one_statement h k
