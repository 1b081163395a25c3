-- What the tokens of a piece are read as.
--     Parses tokens reading      the reading is the statement that they spell, or why they spell none
--     found_reading tokens       the reading, as it is found from left to right
use Rattle.std.specs.Prelude.{◌<◌, ◌≤◌, nat_lt, if◌then◌else◌, Bool, false, List, [], ◌∷◌, Option, Some, None, Result, Ok, Err}
use Rattle.beas_core.specs.declared.refusal.Refusal.{Refusal}
use Rattle.beas_core.specs.declared.refusal.Refusal.TheVariants.{Syntax, TooDeep, NeedsDistinct}
use Rattle.sql_text.specs.declared.tree.Statement.{Statement}
use Rattle.sql_text.specs.declared.tree.Statement.TheVariants.{CreateTable, CreateAccess, DropAccess, Load, Insert, Delete, DiscoverGroup, DiscoverPairs, Select, Explain, ScanOk, Grouped, Specialise}
use Rattle.sql_text.specs.Grammar.{Spells, SpellsLone, wants_distinct}
use Rattle.sql_text.specs.Symbols.{Symbol, depth}
use Rattle.sql_parser.specs.Reading.{read_statement}

-- a statement, or why the tokens of a piece spell none
abbrev pub Reading : Type 0
Reading = Result Statement Refusal

-- a statement over a query whose tree is one block without DISTINCT
abbrev pub lacks_distinct : Statement → Bool
lacks_distinct (Select tree) = wants_distinct tree
lacks_distinct (Explain tree) = wants_distinct tree
lacks_distinct (ScanOk tree) = wants_distinct tree
lacks_distinct (Specialise tree) = wants_distinct tree
lacks_distinct (CreateTable table columns) = false
lacks_distinct (CreateAccess spec) = false
lacks_distinct (DropAccess access) = false
lacks_distinct (Load table file) = false
lacks_distinct (Insert table rows) = false
lacks_distinct (Delete table conditions) = false
lacks_distinct (DiscoverGroup table key fetched) = false
lacks_distinct (DiscoverPairs table limit) = false
lacks_distinct (Grouped items keys inner) = false

-- no statement, and no query that lacks its DISTINCT
pub record SpellsNothing (tokens : List Symbol) : Type 0 where
  pub no_statement : (s : Statement) → Spells tokens s → ⊥
  pub no_lone : SpellsLone tokens → ⊥

abbrev pub Parses : List Symbol → Reading → Type 0
Parses tokens (Ok statement) = (depth tokens ≤ 32) × Spells tokens statement
Parses tokens (Err TooDeep) = 32 < depth tokens
Parses tokens (Err Syntax) = (depth tokens ≤ 32) × SpellsNothing tokens
Parses tokens (Err NeedsDistinct) = (depth tokens ≤ 32) × SpellsLone tokens
Parses tokens (Err _) = ⊥

-- ---- as it is found

abbrev pub with_distinct : Statement → Reading
with_distinct statement = if lacks_distinct statement then Err NeedsDistinct else Ok statement

-- all tokens are read
abbrev pub to_the_end : Option (Statement × List Symbol) → Reading
to_the_end None = Err Syntax
to_the_end (Some (statement, [])) = with_distinct statement
to_the_end (Some (statement, symbol ∷ rest)) = Err Syntax

unfoldable pub found_reading : List Symbol → Reading
found_reading tokens = if nat_lt 32 (depth tokens) then Err TooDeep else to_the_end (read_statement tokens)
