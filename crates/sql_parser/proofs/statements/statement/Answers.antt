use Rattle.std.proofs.Common.{sym, subst, ◌∙◌}
use Rattle.token_reader.specs.Reading.{GivesWithRest}
use Rattle.sql_parser.proofs.Openings.{at_select}
use Rattle.sql_parser.proofs.statements.statement.Goals as goal

pub returns-then-next_is_word : goal.returns-then-next_is_word
returns-then-next_is_word c =
    subst (λ read. GivesWithRest c.selection.result c.selection.new.reader read)
    (sym (at_select c.args.reader.now (sym c.next_is_word.ensures ∙ c.if-next_is_word.true))) c.selection.ensures
