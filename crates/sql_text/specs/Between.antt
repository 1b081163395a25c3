-- What stands between the parts of a list.
use Rattle.std.specs.Prelude.{codes}
use Rattle.sql_text.specs.declared.printing.Between.{Between}
use Rattle.sql_text.specs.declared.printing.Between.TheVariants.{Comma, And}
use Rattle.sql_text.specs.Canonical.{Lexeme, keyword, sign}

abbrev pub lexeme_between : Between → Lexeme
lexeme_between Comma = sign (codes ",")
lexeme_between And = keyword (codes "AND")
