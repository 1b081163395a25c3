use Rattle.sql_text.specs.Symbols.{symbols}
use Rattle.sql_parser.proofs.Parsing.{spelled, refused, answered}
use Rattle.sql_parser.proofs.whole.parse.Goals as goal

pub returns-clause-spelled : goal.returns-clause-spelled
returns-clause-spelled c = spelled (symbols c.args.tokens.now) c.reading.result c.reading.ensures

pub returns-clause-refused : goal.returns-clause-refused
returns-clause-refused c = refused (symbols c.args.tokens.now) c.reading.result c.reading.ensures

pub returns-clause-answered : goal.returns-clause-answered
returns-clause-answered c = answered (symbols c.args.tokens.now) c.reading.result c.reading.ensures
