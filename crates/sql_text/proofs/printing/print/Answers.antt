use Rattle.std.proofs.Common.{◌∙◌}
use Rattle.sql_text.specs.Canonical.{lexemes_of}
use Rattle.sql_text.proofs.Written.{from_start}
use Rattle.sql_text.proofs.printing.print.Goals as goal

pub returns : goal.returns
returns c = c.into_text.ensures ∙ from_start c.new-writer.result c.write_statement.new.writer (lexemes_of c.args.statement.now) c.new-writer.ensures.text
    c.new-writer.ensures.held c.in_ok-write_statement.ensures
