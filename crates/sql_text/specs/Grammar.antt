-- The grammar: which tokens spell which tree.
use Rattle.std.specs.Prelude.{◌≡◌, ℕ, ◌&&◌, ◌==◌, not, if◌then◌else◌, Bool, true, false, List, [], ◌∷◌, ◌++◌, codes, bytes_eq, Some, None}
use Rattle.std.specs.List.{flat_map}
use Rattle.beas_core.specs.declared.schema.ColType.TheVariants.{Integer, Words as Texts}
use Rattle.beas_core.specs.declared.schema.Column.{Column}
use Rattle.beas_core.specs.declared.query.Sign.{Sign}
use Rattle.beas_core.specs.declared.query.Sign.TheVariants.{Equal, Differs, Less, AtMost, More, AtLeast}
use Rattle.sql_text.specs.declared.tree.Literal.{Literal}
use Rattle.sql_text.specs.declared.tree.Literal.TheVariants.{Number, Words}
use Rattle.sql_text.specs.declared.tree.ColumnRef.{ColumnRef}
use Rattle.sql_text.specs.declared.tree.Side.{Side}
use Rattle.sql_text.specs.declared.tree.Side.TheVariants.{Column as Placed, Fixed}
use Rattle.sql_text.specs.declared.tree.Cond.{Cond}
use Rattle.sql_text.specs.declared.tree.Cond.TheVariants.{Compare, Between}
use Rattle.sql_text.specs.declared.tree.FromItem.{FromItem}
use Rattle.sql_text.specs.declared.tree.BlockTree.{BlockTree}
use Rattle.sql_text.specs.declared.tree.GroupItem.{GroupItem}
use Rattle.sql_text.specs.declared.tree.GroupItem.TheVariants.{Plain, Count, Sum, Least, Greatest}
use Rattle.sql_text.specs.declared.tree.Statement.{Statement}
use Rattle.sql_text.specs.declared.tree.Statement.TheVariants.{CreateTable, CreateAccess, DropAccess, Load, Insert, Delete, DiscoverGroup, DiscoverPairs, Select, Explain, ScanOk, Grouped, Specialise}
use Rattle.beas_core.specs.Spelling.{is_name}
use Rattle.sql_text.specs.Symbols.{Symbol, word, number, quoted, mark}
use Rattle.sql_text.specs.Trees.{Tree, Block, Union, Except}
use Rattle.sql_text.specs.Grouping.{grouped_block}
use Rattle.sql_text.specs.Words.{ACCESS, AND, AS, BETWEEN, BY, COUNT, CREATE, CROSS, DELETE, DISCOVER, DISTINCT, DROP, EXCEPT, EXPLAIN, FETCH, FROM, GROUP, INNER, INSERT, INT, INTEGER, INTO, JOIN, LIMIT, LOAD, MAX, MIN, OK, ON, SCAN, SELECT, SPECIALISE, SUM, TABLE, TEXT, UNION, VALUES, WHERE, OPEN, CLOSE, COMMA, DOT, STAR, PLUS, MINUS}

-- X { , X }
pub data Commas {X : Type 0} (Spelled : List Symbol → X → Type 0) : List Symbol → List X → Type 0 where
  last : {a : List Symbol} {x : X} → Spelled a x → Commas Spelled a (x ∷ [])
  comma : {a b : List Symbol} {x : X} {xs : List X} → Spelled a x → Commas Spelled b xs → Commas Spelled (a ++ COMMA ∷ b) (x ∷ xs)

-- id: a word that is a name
pub data IsId : List Symbol → List ℕ → Type 0 where
  id : {n : List ℕ} → is_name n ≡ true → IsId (word n ∷ []) n

-- [ ids ]
pub data IsMaybeIds : List Symbol → List (List ℕ) → Type 0 where
  no_ids : IsMaybeIds [] []
  ids : {a : List Symbol} {ns : List (List ℕ)} → Commas IsId a ns → IsMaybeIds a ns

-- id ( INTEGER | INT | TEXT )
pub data IsColumn : List Symbol → Column → Type 0 where
  integer : {a : List Symbol} {n : List ℕ} → IsId a n → IsColumn (a ++ INTEGER ∷ []) (record { name = n; kind = Integer })
  int : {a : List Symbol} {n : List ℕ} → IsId a n → IsColumn (a ++ INT ∷ []) (record { name = n; kind = Integer })
  text : {a : List Symbol} {n : List ℕ} → IsId a n → IsColumn (a ++ TEXT ∷ []) (record { name = n; kind = Texts })

-- digits without leading zeros, of which one digit is kept; 48 is the digit 0
abbrev pub significant_digits : List ℕ → List ℕ
significant_digits [] = []
significant_digits (digit ∷ []) = digit ∷ []
significant_digits (digit ∷ next ∷ digits) = if digit == 48 then significant_digits (next ∷ digits) else digit ∷ next ∷ digits

-- zero has no sign
abbrev pub signed_literal : Bool → List ℕ → Literal
signed_literal negative digits = Number (negative && not (bytes_eq (significant_digits digits) (codes "0"))) (significant_digits digits)

-- [ + | - ] number | quoted
pub data IsLiteral : List Symbol → Literal → Type 0 where
  plain : {d : List ℕ} → IsLiteral (number d ∷ []) (signed_literal false d)
  positive : {d : List ℕ} → IsLiteral (PLUS ∷ number d ∷ []) (signed_literal false d)
  negative : {d : List ℕ} → IsLiteral (MINUS ∷ number d ∷ []) (signed_literal true d)
  between_quotes : {t : List ℕ} → IsLiteral (quoted t ∷ []) (Words t)

-- ( literal { , literal } )
pub data IsTuple : List Symbol → List Literal → Type 0 where
  tuple : {a : List Symbol} {ls : List Literal} → Commas IsLiteral a ls → IsTuple (OPEN ∷ a ++ CLOSE ∷ []) ls

-- id | id . id
pub data IsRef : List Symbol → ColumnRef → Type 0 where
  bare : {a : List Symbol} {n : List ℕ} → IsId a n → IsRef a (record { table = None; column = n })
  dotted : {a b : List Symbol} {t n : List ℕ} → IsId a t → IsId b n → IsRef (a ++ DOT ∷ b) (record { table = Some t; column = n })

-- ref | literal
pub data IsSide : List Symbol → Side → Type 0 where
  placed : {a : List Symbol} {r : ColumnRef} → IsRef a r → IsSide a (Placed r)
  written : {a : List Symbol} {l : Literal} → IsLiteral a l → IsSide a (Fixed l)

-- = | <> | != | < | <= | > | >=
pub data IsSign : List Symbol → Sign → Type 0 where
  equal : IsSign (mark (codes "=") ∷ []) Equal
  differs : IsSign (mark (codes "<>") ∷ []) Differs
  not_equal : IsSign (mark (codes "!=") ∷ []) Differs
  less : IsSign (mark (codes "<") ∷ []) Less
  at_most : IsSign (mark (codes "<=") ∷ []) AtMost
  more : IsSign (mark (codes ">") ∷ []) More
  at_least : IsSign (mark (codes ">=") ∷ []) AtLeast

abbrev pub is_literal : Side → Bool
is_literal (Placed r) = false
is_literal (Fixed l) = true

mutual
  -- side sign side, at least one side a ref | ref BETWEEN side AND side | ( conditions ), without a trace of the parentheses
  pub data IsCondition : List Symbol → List Cond → Type 0 where
    comparison : {a b c : List Symbol} {left right : Side} {sign : Sign} → IsSide a left → IsSign b sign → IsSide c right
        → (is_literal left && is_literal right) ≡ false → IsCondition (a ++ b ++ c) (Compare left sign right ∷ [])
    range : {a b c : List Symbol} {value : ColumnRef} {low high : Side} → IsRef a value → IsSide b low → IsSide c high
        → IsCondition (a ++ BETWEEN ∷ b ++ AND ∷ c) (Between value low high ∷ [])
    parentheses : {a : List Symbol} {cs : List Cond} → IsConditions a cs → IsCondition (OPEN ∷ a ++ CLOSE ∷ []) cs

  -- condition { AND condition }
  pub data IsConditions : List Symbol → List Cond → Type 0 where
    last_condition : {a : List Symbol} {cs : List Cond} → IsCondition a cs → IsConditions a cs
    conjunction : {a b : List Symbol} {cs ds : List Cond} → IsCondition a cs → IsConditions b ds → IsConditions (a ++ AND ∷ b) (cs ++ ds)

-- [ WHERE conditions ]
pub data IsWhere : List Symbol → List Cond → Type 0 where
  no_where : IsWhere [] []
  where_ : {a : List Symbol} {cs : List Cond} → IsConditions a cs → IsWhere (WHERE ∷ a) cs

-- id [ [ AS ] id ]
pub data IsItem : List Symbol → FromItem → Type 0 where
  alone : {a : List Symbol} {t : List ℕ} → IsId a t → IsItem a (record { table = t; alias = t })
  alias : {a b : List Symbol} {t n : List ℕ} → IsId a t → IsId b n → IsItem (a ++ b) (record { table = t; alias = n })
  as_alias : {a b : List Symbol} {t n : List ℕ} → IsId a t → IsId b n → IsItem (a ++ AS ∷ b) (record { table = t; alias = n })

-- { [ INNER ] JOIN item ON conditions | CROSS JOIN item }
pub data IsJoins : List Symbol → List FromItem → List Cond → Type 0 where
  no_join : IsJoins [] [] []
  join : {a b c : List Symbol} {i : FromItem} {is : List FromItem} {cs ds : List Cond} → IsItem a i → IsConditions b cs → IsJoins c is ds
      → IsJoins (JOIN ∷ a ++ ON ∷ b ++ c) (i ∷ is) (cs ++ ds)
  inner_join : {a b c : List Symbol} {i : FromItem} {is : List FromItem} {cs ds : List Cond} → IsItem a i → IsConditions b cs → IsJoins c is ds
      → IsJoins (INNER ∷ JOIN ∷ a ++ ON ∷ b ++ c) (i ∷ is) (cs ++ ds)
  cross_join : {a b : List Symbol} {i : FromItem} {is : List FromItem} {ds : List Cond} → IsItem a i → IsJoins b is ds
      → IsJoins (CROSS ∷ JOIN ∷ a ++ b) (i ∷ is) ds

-- a source: its items in order, and the conditions after ON in order
abbrev pub Source : Type 0
Source = List FromItem × List Cond

-- item { [ INNER ] JOIN item ON conditions | CROSS JOIN item }
pub data IsSource : List Symbol → Source → Type 0 where
  joined_source : {a b : List Symbol} {i : FromItem} {is : List FromItem} {cs : List Cond} → IsItem a i → IsJoins b is cs → IsSource (a ++ b) ((i ∷ is, cs))

-- what a block's rows come from: all its items in order, and the conditions after ON, then those after WHERE
abbrev pub Body : Type 0
Body = List FromItem × List Cond

abbrev pub body_of : List Source → List Cond → Body
body_of sources conditions = (flat_map (λ s. s.0) sources, flat_map (λ s. s.1) sources ++ conditions)

-- FROM source { , source } [ WHERE conditions ]
pub data IsBody : List Symbol → Body → Type 0 where
  from_sources : {a b : List Symbol} {ss : List Source} {cs : List Cond} → Commas IsSource a ss → IsWhere b cs → IsBody (FROM ∷ a ++ b) (body_of ss cs)

-- [ DISTINCT ]
pub data IsDistinct : List Symbol → Bool → Type 0 where
  all_rows : IsDistinct [] false
  distinct_rows : IsDistinct (DISTINCT ∷ []) true

-- * | ref { , ref }
pub data IsOutput : List Symbol → Bool → List ColumnRef → Type 0 where
  all_columns : IsOutput (STAR ∷ []) true []
  columns : {a : List Symbol} {rs : List ColumnRef} → Commas IsRef a rs → IsOutput a false rs

-- SELECT [ DISTINCT ] ( * | ref { , ref } )
pub data IsHead : List Symbol → Bool → Bool → List ColumnRef → Type 0 where
  select_output : {a b : List Symbol} {distinct star : Bool} {rs : List ColumnRef} → IsDistinct a distinct → IsOutput b star rs
      → IsHead (SELECT ∷ a ++ b) distinct star rs

abbrev pub block_of : Bool → Bool → List ColumnRef → Body → BlockTree
block_of distinct star refs body = record { distinct = distinct; star = star; items = refs; from_items = body.0; conditions = body.1 }

-- a head and a body
pub data IsBlock : List Symbol → BlockTree → Type 0 where
  select_block : {a b : List Symbol} {distinct star : Bool} {rs : List ColumnRef} {body : Body} → IsHead a distinct star rs → IsBody b body
      → IsBlock (a ++ b) (block_of distinct star rs body)

mutual
  -- block | ( query )
  pub data IsTerm : List Symbol → Tree → Type 0 where
    single : {a : List Symbol} {b : BlockTree} → IsBlock a b → IsTerm a (Block b)
    nested : {a : List Symbol} {t : Tree} → IsQuery a t → IsTerm (OPEN ∷ a ++ CLOSE ∷ []) t

  -- term { ( UNION | EXCEPT ) term }, grouped from the left
  pub data IsQuery : List Symbol → Tree → Type 0 where
    term : {a : List Symbol} {t : Tree} → IsTerm a t → IsQuery a t
    union : {a b : List Symbol} {t u : Tree} → IsQuery a t → IsTerm b u → IsQuery (a ++ UNION ∷ b) (Union t u)
    except : {a b : List Symbol} {t u : Tree} → IsQuery a t → IsTerm b u → IsQuery (a ++ EXCEPT ∷ b) (Except t u)

-- one block without DISTINCT
abbrev pub wants_distinct : Tree → Bool
wants_distinct (Block b) = not b.distinct
wants_distinct (Union left right) = false
wants_distinct (Except left right) = false

-- a statement over a query, with the query's tree, also where that lacks its DISTINCT: query | EXPLAIN query | SCAN OK query | SPECIALISE block
pub data IsOverQuery : List Symbol → Tree → Statement → Type 0 where
  select : {a : List Symbol} {t : Tree} → IsQuery a t → IsOverQuery a t (Select t)
  explain : {a : List Symbol} {t : Tree} → IsQuery a t → IsOverQuery (EXPLAIN ∷ a) t (Explain t)
  scan_ok : {a : List Symbol} {t : Tree} → IsQuery a t → IsOverQuery (SCAN ∷ OK ∷ a) t (ScanOk t)
  specialise : {a : List Symbol} {b : BlockTree} → IsBlock a b → IsOverQuery (SPECIALISE ∷ a) (Block b) (Specialise (Block b))

-- ref | COUNT ( DISTINCT ref ) | SUM ( DISTINCT ref ) | MIN ( ref ) | MAX ( ref )
pub data IsGroupItem : List Symbol → GroupItem → Type 0 where
  shared : {a : List Symbol} {r : ColumnRef} → IsRef a r → IsGroupItem a (Plain r)
  counted : {a : List Symbol} {r : ColumnRef} → IsRef a r → IsGroupItem (COUNT ∷ OPEN ∷ DISTINCT ∷ a ++ CLOSE ∷ []) (Count r)
  summed : {a : List Symbol} {r : ColumnRef} → IsRef a r → IsGroupItem (SUM ∷ OPEN ∷ DISTINCT ∷ a ++ CLOSE ∷ []) (Sum r)
  least : {a : List Symbol} {r : ColumnRef} → IsRef a r → IsGroupItem (MIN ∷ OPEN ∷ a ++ CLOSE ∷ []) (Least r)
  greatest : {a : List Symbol} {r : ColumnRef} → IsRef a r → IsGroupItem (MAX ∷ OPEN ∷ a ++ CLOSE ∷ []) (Greatest r)

-- The tokens spell the statement.
pub data Spells : List Symbol → Statement → Type 0 where
  create_table : {a b : List Symbol} {n : List ℕ} {cs : List Column} → IsId a n → Commas IsColumn b cs
      → Spells (CREATE ∷ TABLE ∷ a ++ OPEN ∷ b ++ CLOSE ∷ []) (CreateTable n cs)
  create_access : {a b c d : List Symbol} {n t limit : List ℕ} {key fetched : List (List ℕ)} → IsId a n → IsId b t → IsMaybeIds c key → Commas IsId d fetched
      → Spells (CREATE ∷ ACCESS ∷ a ++ ON ∷ b ++ OPEN ∷ c ++ CLOSE ∷ FETCH ∷ OPEN ∷ d ++ CLOSE ∷ LIMIT ∷ number limit ∷ [])
      (CreateAccess (record { name = n; table = t; key = key; fetched = fetched; limit = limit }))
  drop_access : {a : List Symbol} {n : List ℕ} → IsId a n
      → Spells (DROP ∷ ACCESS ∷ a) (DropAccess n)
  load : {a : List Symbol} {t file : List ℕ} → IsId a t
      → Spells (LOAD ∷ a ++ FROM ∷ quoted file ∷ []) (Load t file)
  insert : {a b : List Symbol} {t : List ℕ} {rows : List (List Literal)} → IsId a t → Commas IsTuple b rows
      → Spells (INSERT ∷ INTO ∷ a ++ VALUES ∷ b) (Insert t rows)
  delete : {a b : List Symbol} {t : List ℕ} {cs : List Cond} → IsId a t → IsWhere b cs
      → Spells (DELETE ∷ FROM ∷ a ++ b) (Delete t cs)
  discover_group : {a b c : List Symbol} {t : List ℕ} {key fetched : List (List ℕ)} → IsId a t → IsMaybeIds b key → Commas IsId c fetched
      → Spells (DISCOVER ∷ a ++ OPEN ∷ b ++ CLOSE ∷ FETCH ∷ OPEN ∷ c ++ CLOSE ∷ []) (DiscoverGroup t key fetched)
  discover_pairs : {a : List Symbol} {t limit : List ℕ} → IsId a t
      → Spells (DISCOVER ∷ a ++ LIMIT ∷ number limit ∷ []) (DiscoverPairs t limit)
  grouped : {a b c : List Symbol} {items : List GroupItem} {body : Body} {keys : List ColumnRef} → Commas IsGroupItem a items → IsBody b body
      → Commas IsRef c keys → Spells (SELECT ∷ a ++ b ++ GROUP ∷ BY ∷ c) (Grouped items keys (Block (grouped_block items keys body.0 body.1)))
  over_query : {a : List Symbol} {t : Tree} {s : Statement} → IsOverQuery a t s → wants_distinct t ≡ false → Spells a s

-- The tokens spell what would be a statement over a query, but its tree is one block without DISTINCT.
pub data SpellsLone : List Symbol → Type 0 where
  lone : {a : List Symbol} {t : Tree} {s : Statement} → IsOverQuery a t s → wants_distinct t ≡ true → SpellsLone a
