use Rattle.std.proofs.Common.{◌∙◌, sym}
use Rattle.sql_text.specs.Symbols.{word}
use Rattle.sql_parser.proofs.nesting.look_at_word.Goals as goal

pub returns-then-joins_two_blocks-clause-depth : goal.returns-then-joins_two_blocks-clause-depth
returns-then-joins_two_blocks-clause-depth c =
    c.depth_after_join.ensures (word c.args.text.now) (sym c.joins_two_blocks.ensures ∙ c.if-joins_two_blocks.true)
