use Rattle.sql_text.specs.Symbols.{symbols}
use Rattle.piece_reader.proofs.SayingFacts.{answer_says, refusal_says, reading_given}
use Rattle.piece_reader.proofs.reading.read_piece.Goals as goal

pub returns-clause-said : goal.returns-clause-said
returns-clause-said c = answer_says (symbols c.args.tokens.now) c.reading.result c.reading.ensures

pub returns-clause-refused : goal.returns-clause-refused
returns-clause-refused c = refusal_says (symbols c.args.tokens.now) c.reading.result c.reading.ensures

pub returns-clause-answered : goal.returns-clause-answered
returns-clause-answered c = reading_given (symbols c.args.tokens.now) c.reading.result c.reading.ensures
