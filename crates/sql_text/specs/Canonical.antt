-- The canonical text of a statement.
--     lexemes_of statement     its words, names, numbers, texts and marks, in order
--     canonical_text statement  the same as text, with a space between two where one belongs
use Rattle.std.specs.Prelude.{ℕ, ◌||◌, if◌then◌else◌, Bool, true, false, List, [], ◌∷◌, ◌++◌, codes, bytes_eq, Option, Some, None}
use Rattle.std.specs.List.{flat_map}
use Rattle.beas_core.specs.declared.schema.ColType.{ColType}
use Rattle.beas_core.specs.declared.schema.ColType.TheVariants.{Integer, Words as Texts}
use Rattle.beas_core.specs.declared.schema.Column.{Column}
use Rattle.beas_core.specs.declared.schema.AccessSpec.{AccessSpec}
use Rattle.beas_core.specs.declared.query.Sign.{Sign}
use Rattle.beas_core.specs.declared.query.Sign.TheVariants.{Equal, Differs, Less, AtMost, More, AtLeast}
use Rattle.sql_text.specs.declared.tree.Literal.{Literal}
use Rattle.sql_text.specs.declared.tree.Literal.TheVariants.{Number, Words}
use Rattle.sql_text.specs.declared.tree.ColumnRef.{ColumnRef}
use Rattle.sql_text.specs.declared.tree.Side.{Side}
use Rattle.sql_text.specs.declared.tree.Side.TheVariants.{Column as Placed, Fixed}
use Rattle.sql_text.specs.declared.tree.Cond.{Cond}
use Rattle.sql_text.specs.declared.tree.Cond.TheVariants.{Compare, Between}
use Rattle.sql_text.specs.declared.tree.FromItem.{FromItem}
use Rattle.sql_text.specs.declared.tree.BlockTree.{BlockTree}
use Rattle.sql_text.specs.declared.tree.GroupItem.{GroupItem}
use Rattle.sql_text.specs.declared.tree.GroupItem.TheVariants.{Plain, Count, Sum, Least, Greatest}
use Rattle.sql_text.specs.declared.tree.Statement.{Statement}
use Rattle.sql_text.specs.declared.tree.Statement.TheVariants.{CreateTable, CreateAccess, DropAccess, Load, Insert, Delete, DiscoverGroup, DiscoverPairs, Select, Explain, ScanOk, Grouped, Specialise}
use Rattle.sql_tokens.specs.Tokens.{in_quotes}
use Rattle.sql_text.specs.Trees.{Tree, Block, Union, Except}

-- a word of the grammar in capitals, a name, the digits of a number, the content of a text, or a mark
pub data Lexeme : Type 0 where
  keyword : List ℕ → Lexeme
  name : List ℕ → Lexeme
  digits : List ℕ → Lexeme
  content : List ℕ → Lexeme
  sign : List ℕ → Lexeme

abbrev pub spelling : Lexeme → List ℕ
spelling (keyword text) = text
spelling (name text) = text
spelling (digits text) = text
spelling (content text) = in_quotes text
spelling (sign text) = text

-- no space stands before a comma, a closing parenthesis and a point
abbrev pub holds_left : Lexeme → Bool
holds_left (sign text) = bytes_eq text (codes ",") || bytes_eq text (codes ")") || bytes_eq text (codes ".")
holds_left _ = false

-- no space stands after an opening parenthesis, a point, and the minus of a number
abbrev pub holds_right : Lexeme → Bool
holds_right (sign text) = bytes_eq text (codes "(") || bytes_eq text (codes ".") || bytes_eq text (codes "-")
holds_right _ = false

-- 32 is the space
abbrev pub gap : Bool → List ℕ
gap held = if held then [] else 32 ∷ []

-- the text of lexemes, where held says that no space stands before the first
abbrev pub text_of_lexemes : Bool → List Lexeme → List ℕ
text_of_lexemes held [] = []
text_of_lexemes held (lexeme ∷ rest) = gap (held || holds_left lexeme) ++ spelling lexeme ++ text_of_lexemes (holds_right lexeme) rest

-- parts with a lexeme between
abbrev pub parts_with : {X : Type 0} → Lexeme → (X → List Lexeme) → List X → List Lexeme
parts_with between part [] = []
parts_with between part (x ∷ xs) = part x ++ flat_map (λ y. between ∷ part y) xs

abbrev pub comma_list : {X : Type 0} → (X → List Lexeme) → List X → List Lexeme
comma_list part xs = parts_with (sign (codes ",")) part xs

abbrev pub names_of : List (List ℕ) → List Lexeme
names_of names = comma_list (λ n. name n ∷ []) names

abbrev pub type_of : ColType → Lexeme
type_of Integer = keyword (codes "INTEGER")
type_of Texts = keyword (codes "TEXT")

abbrev pub column_of : Column → List Lexeme
column_of column = name column.name ∷ type_of column.kind ∷ []

abbrev pub literal_of : Literal → List Lexeme
literal_of (Number negative text) = if negative then sign (codes "-") ∷ digits text ∷ [] else digits text ∷ []
literal_of (Words text) = content text ∷ []

abbrev pub tuple_of : List Literal → List Lexeme
tuple_of literals = sign (codes "(") ∷ comma_list literal_of literals ++ sign (codes ")") ∷ []

abbrev pub alias_before : Option (List ℕ) → List Lexeme
alias_before None = []
alias_before (Some alias) = name alias ∷ sign (codes ".") ∷ []

abbrev pub ref_of : ColumnRef → List Lexeme
ref_of ref = alias_before ref.table ++ name ref.column ∷ []

abbrev pub side_of : Side → List Lexeme
side_of (Placed ref) = ref_of ref
side_of (Fixed literal) = literal_of literal

abbrev pub sign_text : Sign → List ℕ
sign_text Equal = codes "="
sign_text Differs = codes "<>"
sign_text Less = codes "<"
sign_text AtMost = codes "<="
sign_text More = codes ">"
sign_text AtLeast = codes ">="

abbrev pub condition_of : Cond → List Lexeme
condition_of (Compare left by right) = side_of left ++ sign (sign_text by) ∷ side_of right
condition_of (Between value low high) = ref_of value ++ keyword (codes "BETWEEN") ∷ side_of low ++ keyword (codes "AND") ∷ side_of high

abbrev pub where_of : List Cond → List Lexeme
where_of [] = []
where_of (c ∷ cs) = keyword (codes "WHERE") ∷ parts_with (keyword (codes "AND")) condition_of (c ∷ cs)

-- an alias is printed where it differs from the table's name
abbrev pub item_of : FromItem → List Lexeme
item_of item = name item.table ∷ (if bytes_eq item.alias item.table then [] else keyword (codes "AS") ∷ name item.alias ∷ [])

abbrev pub output_of : Bool → List ColumnRef → List Lexeme
output_of star refs = if star then sign (codes "*") ∷ [] else comma_list ref_of refs

abbrev pub distinct_of : Bool → List Lexeme
distinct_of distinct = if distinct then keyword (codes "DISTINCT") ∷ [] else []

abbrev pub head_of : Bool → Bool → List ColumnRef → List Lexeme
head_of distinct star refs = keyword (codes "SELECT") ∷ distinct_of distinct ++ output_of star refs

abbrev pub body_of : List FromItem → List Cond → List Lexeme
body_of items conditions = keyword (codes "FROM") ∷ comma_list item_of items ++ where_of conditions

abbrev pub block_of : BlockTree → List Lexeme
block_of block = head_of block.distinct block.star block.items ++ body_of block.from_items block.conditions

abbrev pub in_parentheses : List Lexeme → List Lexeme
in_parentheses lexemes = sign (codes "(") ∷ lexemes ++ sign (codes ")") ∷ []

-- a right operand that is no block stands in parentheses
abbrev pub operand_of : Tree → List Lexeme → List Lexeme
operand_of (Block block) lexemes = lexemes
operand_of _ lexemes = in_parentheses lexemes

abbrev pub tree_lexemes : Tree → List Lexeme
tree_lexemes (Block block) = block_of block
tree_lexemes (Union left right) = tree_lexemes left ++ keyword (codes "UNION") ∷ operand_of right (tree_lexemes right)
tree_lexemes (Except left right) = tree_lexemes left ++ keyword (codes "EXCEPT") ∷ operand_of right (tree_lexemes right)

-- a function of the values of a column
abbrev pub folded_of : List ℕ → Bool → ColumnRef → List Lexeme
folded_of function distinct ref = keyword function ∷ in_parentheses (distinct_of distinct ++ ref_of ref)

abbrev pub group_item_of : GroupItem → List Lexeme
group_item_of (Plain ref) = ref_of ref
group_item_of (Count ref) = folded_of (codes "COUNT") true ref
group_item_of (Sum ref) = folded_of (codes "SUM") true ref
group_item_of (Least ref) = folded_of (codes "MIN") false ref
group_item_of (Greatest ref) = folded_of (codes "MAX") false ref

-- the FROM items and conditions of a block; no statement is grouped over another tree
abbrev pub from_of : Tree → List Lexeme
from_of (Block block) = body_of block.from_items block.conditions
from_of (Union left right) = []
from_of (Except left right) = []

abbrev pub grouped_of : List GroupItem → List ColumnRef → Tree → List Lexeme
grouped_of items keys inner = keyword (codes "SELECT") ∷ comma_list group_item_of items ++ from_of inner ++ keyword (codes "GROUP")
    ∷ keyword (codes "BY") ∷ comma_list ref_of keys

-- FETCH ( names )
abbrev pub fetch_of : List (List ℕ) → List Lexeme
fetch_of names = keyword (codes "FETCH") ∷ in_parentheses (names_of names)

abbrev pub limit_of : List ℕ → List Lexeme
limit_of limit = keyword (codes "LIMIT") ∷ digits limit ∷ []

abbrev pub access_of : AccessSpec → List Lexeme
access_of spec = keyword (codes "CREATE") ∷ keyword (codes "ACCESS") ∷ name spec.name ∷ keyword (codes "ON") ∷ name spec.table ∷ in_parentheses
    (names_of spec.key) ++ fetch_of spec.fetched ++ limit_of spec.limit

abbrev pub lexemes_of : Statement → List Lexeme
lexemes_of (CreateTable table columns) = keyword (codes "CREATE") ∷ keyword (codes "TABLE") ∷ name table ∷ in_parentheses (comma_list column_of columns)
lexemes_of (CreateAccess spec) = access_of spec
lexemes_of (DropAccess access) = keyword (codes "DROP") ∷ keyword (codes "ACCESS") ∷ name access ∷ []
lexemes_of (Load table file) = keyword (codes "LOAD") ∷ name table ∷ keyword (codes "FROM") ∷ content file ∷ []
lexemes_of (Insert table rows) = keyword (codes "INSERT") ∷ keyword (codes "INTO") ∷ name table ∷ keyword (codes "VALUES") ∷ comma_list tuple_of rows
lexemes_of (Delete table conditions) = keyword (codes "DELETE") ∷ keyword (codes "FROM") ∷ name table ∷ where_of conditions
lexemes_of (DiscoverGroup table key fetched) = keyword (codes "DISCOVER") ∷ name table ∷ in_parentheses (names_of key) ++ fetch_of fetched
lexemes_of (DiscoverPairs table limit) = keyword (codes "DISCOVER") ∷ name table ∷ limit_of limit
lexemes_of (Select tree) = tree_lexemes tree
lexemes_of (Explain tree) = keyword (codes "EXPLAIN") ∷ tree_lexemes tree
lexemes_of (ScanOk tree) = keyword (codes "SCAN") ∷ keyword (codes "OK") ∷ tree_lexemes tree
lexemes_of (Grouped items keys inner) = grouped_of items keys inner
lexemes_of (Specialise tree) = keyword (codes "SPECIALISE") ∷ tree_lexemes tree

abbrev pub canonical_text : Statement → List ℕ
canonical_text statement = text_of_lexemes true (lexemes_of statement)
