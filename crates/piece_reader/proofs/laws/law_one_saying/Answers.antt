use Rattle.sql_text.specs.Symbols.{symbols}
use Rattle.piece_reader.proofs.SayingFacts.{found-says, one_saying}
use Rattle.piece_reader.proofs.laws.law_one_saying.Goals as goal

pub returns-clause-some : goal.returns-clause-some
returns-clause-some c = λ tokens. found-says (symbols tokens)

pub returns-clause-one : goal.returns-clause-one
returns-clause-one c = λ tokens reading h. one_saying (symbols tokens) reading h
