-- What stands before a term of a query.
use Rattle.sql_parser.specs.declared.queries.Front.{Front}
use Rattle.sql_parser.specs.declared.queries.Front.TheVariants.{Nothing, BeforeUnion, BeforeExcept}
use Rattle.sql_text.specs.Trees.{Tree, Union, Except}

-- a tree after what stands before it
abbrev pub joined_to : Front → Tree → Tree
joined_to Nothing tree = tree
joined_to (BeforeUnion left) tree = Union left tree
joined_to (BeforeExcept left) tree = Except left tree
