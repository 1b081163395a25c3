use Rattle.sql_parser.proofs.Parsing.{parsed-parses, one_reading}
use Rattle.sql_parser.proofs.laws.law_one_reading.Goals as goal

pub returns-clause-some : goal.returns-clause-some
returns-clause-some c = λ tokens. parsed-parses tokens

pub returns-clause-one : goal.returns-clause-one
returns-clause-one c = λ tokens reading h. one_reading tokens reading h
