-- What a statement has that tokens spell: a table with a column, a constraint that fetches a column, a block over a
-- table; and fewer of each kind of its parts than a report can number.
--     TreeIsWellFormed tree
--     StatementIsWellFormed statement
use Rattle.std.specs.Prelude.{◌<◌, ◌≤◌, ◌^◌, List, length, All}
use Rattle.sql_text.specs.declared.tree.ColumnRef.{ColumnRef}
use Rattle.sql_text.specs.declared.tree.GroupItem.{GroupItem}
use Rattle.sql_text.specs.declared.tree.Literal.{Literal}
use Rattle.sql_text.specs.declared.tree.Statement.{Statement}
use Rattle.sql_text.specs.declared.tree.Statement.TheVariants.{CreateTable, CreateAccess, DropAccess, Load, Insert, Delete, DiscoverGroup, DiscoverPairs, Select, Explain, ScanOk, Grouped, Specialise}
use Rattle.sql_text.specs.Grouping.{IsGroupedOver}
use Rattle.sql_text.specs.Trees.{Tree}
use Rattle.name_resolution.specs.Binding.{blocks_of}

pub record TreeIsWellFormed (tree : Tree) : Type 0 where
  pub few_blocks : length (blocks_of tree) < 2 ^ 32
  pub few_conditions : All (λ b. length b.conditions < 2 ^ 32) (blocks_of tree)
  pub some_table : All (λ b. 1 ≤ length b.from_items) (blocks_of tree)

pub record TuplesAreFew (tuples : List (List Literal)) : Type 0 where
  pub few : length tuples < 2 ^ 32
  pub narrow : All (λ tuple. length tuple < 2 ^ 32) tuples

-- its keys and the columns of its items are a query of one block
pub record GroupedIsWellFormed (items : List GroupItem) (keys : List ColumnRef) (inner : Tree) : Type 0 where
  pub tree : TreeIsWellFormed inner
  pub over : IsGroupedOver items keys inner

abbrev pub StatementIsWellFormed : Statement → Type 0
StatementIsWellFormed (CreateTable name columns) = 1 ≤ length columns
StatementIsWellFormed (CreateAccess spec) = 1 ≤ length spec.fetched
StatementIsWellFormed (Insert table tuples) = TuplesAreFew tuples
StatementIsWellFormed (Delete table conditions) = length conditions < 2 ^ 32
StatementIsWellFormed (Select tree) = TreeIsWellFormed tree
StatementIsWellFormed (Explain tree) = TreeIsWellFormed tree
StatementIsWellFormed (ScanOk tree) = TreeIsWellFormed tree
StatementIsWellFormed (Grouped items keys inner) = GroupedIsWellFormed items keys inner
StatementIsWellFormed (Specialise tree) = TreeIsWellFormed tree
StatementIsWellFormed (DropAccess name) = Unit {0}
StatementIsWellFormed (Load table file) = Unit {0}
StatementIsWellFormed (DiscoverGroup table key fetched) = Unit {0}
StatementIsWellFormed (DiscoverPairs table limit) = Unit {0}
