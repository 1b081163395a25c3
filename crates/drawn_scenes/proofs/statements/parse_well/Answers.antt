use Rattle.std.proofs.Common.{Ok}
use Rattle.std.proofs.lemmas.Result.{IfOk-weaker}
use Rattle.session.specs.Statements.{StatementIsWellFormed}
use Rattle.sql_parser.specs.Outcome.{Parses}
use Rattle.sql_text.specs.declared.tree.Statement.{Statement}
use Rattle.sql_text.specs.Symbols.{symbols}
use Rattle.desk_model.proofs.WellFormedFacts.{parsed_well}
use Rattle.drawn_scenes.proofs.statements.parse_well.Goals as goal

pub returns : goal.returns
returns c =
    let tokens = c.args.tokens.now in
    IfOk-weaker c.parse.result (λ (s : Statement). Parses (symbols tokens) (Ok s)) StatementIsWellFormed
    (λ s spelled. parsed_well tokens s spelled c.requires) c.parse.ensures.spelled
