-- Reading from left to right: what is read from the front of the tokens, and the tokens after it. A reader that
-- takes a number repeats at most so often.
use Rattle.std.specs.Prelude.{◌≡◌, ℕ, zero, suc, ◌&&◌, if◌then◌else◌, Bool, true, false, List, [], ◌∷◌, ◌++◌, length, Option, Some, None, Result, Ok, Err}
use Rattle.beas_core.specs.declared.schema.ColType.{ColType}
use Rattle.beas_core.specs.declared.schema.ColType.TheVariants.{Integer, Words as Texts}
use Rattle.beas_core.specs.declared.schema.Column.{Column}
use Rattle.beas_core.specs.declared.query.Sign.{Sign}
use Rattle.token_reader.specs.declared.reader.ReadError.{ReadError}
use Rattle.token_reader.specs.declared.reader.ReadError.TheVariants as errors
use Rattle.sql_parser.specs.declared.blocks.Head.{Head}
use Rattle.sql_parser.specs.declared.statements.Opening.{Opening}
use Rattle.sql_parser.specs.declared.statements.Opening.TheVariants as opening
use Rattle.sql_parser.specs.declared.queries.Front.{Front}
use Rattle.sql_parser.specs.declared.queries.Front.TheVariants.{Nothing, BeforeUnion, BeforeExcept}
use Rattle.sql_text.specs.declared.tree.Literal.{Literal}
use Rattle.sql_text.specs.declared.tree.Literal.TheVariants.{Words}
use Rattle.sql_text.specs.declared.tree.ColumnRef.{ColumnRef}
use Rattle.sql_text.specs.declared.tree.Side.{Side}
use Rattle.sql_text.specs.declared.tree.Side.TheVariants.{Column as Placed, Fixed}
use Rattle.sql_text.specs.declared.tree.Cond.{Cond}
use Rattle.sql_text.specs.declared.tree.Cond.TheVariants.{Compare, Between}
use Rattle.sql_text.specs.declared.tree.FromItem.{FromItem}
use Rattle.sql_text.specs.declared.tree.BlockTree.{BlockTree}
use Rattle.sql_text.specs.declared.tree.Statement.{Statement}
use Rattle.sql_text.specs.declared.tree.GroupItem.{GroupItem}
use Rattle.sql_text.specs.declared.tree.GroupItem.TheVariants.{Plain, Count, Sum, Least, Greatest}
use Rattle.sql_text.specs.declared.tree.Statement.TheVariants.{CreateTable, CreateAccess, DropAccess, Load, Insert, Delete, DiscoverGroup, DiscoverPairs, Select, Explain, ScanOk, Grouped, Specialise}
use Rattle.sql_text.specs.Trees.{Tree, Block}
use Rattle.sql_text.specs.Symbols.{Symbol}
use Rattle.token_reader.specs.Reading.{◌>>=◌, starts, rest_of, begins_with, after_all, expect, read_id, starts_id, read_number, read_quoted, starts_quoted, read_sign, has_group}
use Rattle.sql_text.specs.Grammar.{signed_literal, is_literal, Source, Body, block_of}
use Rattle.sql_text.specs.Grouping.{grouped_block}
use Rattle.sql_parser.specs.Fronts.{joined_to}
use Rattle.sql_text.specs.Words.{ACCESS, AND, AS, BETWEEN, BY, COUNT, CREATE, CROSS, DELETE, DISCOVER, DISTINCT, DROP, EXCEPT, EXPLAIN, FETCH, FROM, GROUP, INNER, INSERT, INT, INTEGER, INTO, JOIN, LIMIT, LOAD, MAX, MIN, OK, ON, SCAN, SELECT, SPECIALISE, SUM, TABLE, TEXT, UNION, VALUES, WHERE, OPEN, CLOSE, COMMA, DOT, STAR, PLUS, MINUS}

-- The same of a call that answers nothing, and changes what it was handed to new.
abbrev pub Adds : {X Y : Type 0} → Result X ReadError → Y → List Symbol → Option (Y × List Symbol) → Type 0
Adds (Ok x) new rest read = read ≡ Some (new, rest)
Adds (Err errors.Syntax) new rest read = read ≡ None
Adds (Err errors.NoMemory) new rest read = Unit {0}

-- what was there before, and then what is read
unfoldable pub after : {X : Type 0} → List X → Option (List X × List Symbol) → Option (List X × List Symbol)
after front read = read >>= λ p. Some (front ++ p.0, p.1)

-- the same of items and conditions
unfoldable pub after_both : Source → Option (Source × List Symbol) → Option (Source × List Symbol)
after_both front read = read >>= λ p. Some ((front.0 ++ p.0.0, front.1 ++ p.0.1), p.1)

-- X { , X }
unfoldable pub read_commas : {X : Type 0} → (List Symbol → Option (X × List Symbol)) → ℕ → List Symbol → Option (List X × List Symbol)
read_commas read zero tokens = None
read_commas read (suc n) tokens = do
  (x, rest) ← read tokens
  if starts COMMA rest then (read_commas read n (rest_of rest) >>= λ q. Some (x ∷ q.0, q.1)) else Some (x ∷ [], rest)

-- X { , X }, as often as there are tokens
abbrev pub read_list : {X : Type 0} → (List Symbol → Option (X × List Symbol)) → List Symbol → Option (List X × List Symbol)
read_list read tokens = read_commas read (length tokens) tokens

-- what is read, and a mark after it
unfoldable pub then_close : {X : Type 0} → Option (X × List Symbol) → Option (X × List Symbol)
then_close read = do
  (x, rest) ← read
  rest ← expect CLOSE rest
  Some (x, rest)

unfoldable pub read_maybe_ids : List Symbol → Option (List (List ℕ) × List Symbol)
read_maybe_ids tokens = if starts CLOSE tokens then Some ([], tokens) else read_list read_id tokens

unfoldable pub read_kind : List Symbol → Option (ColType × List Symbol)
read_kind tokens =
    if starts INTEGER tokens then Some (Integer, rest_of tokens)
    else if starts INT tokens then Some (Integer, rest_of tokens)
    else if starts TEXT tokens then Some (Texts, rest_of tokens) else None

unfoldable pub read_column : List Symbol → Option (Column × List Symbol)
read_column tokens = do
  (name, rest) ← read_id tokens
  (kind, rest) ← read_kind rest
  Some (record { name = name; kind = kind }, rest)

unfoldable pub read_signed : Bool → List Symbol → Option (Literal × List Symbol)
read_signed negative tokens = do
  (digits, rest) ← read_number tokens
  Some (signed_literal negative digits, rest)

unfoldable pub read_literal : List Symbol → Option (Literal × List Symbol)
read_literal tokens =
    if starts_quoted tokens then (read_quoted tokens >>= λ p. Some (Words p.0, p.1))
    else if starts MINUS tokens then read_signed true (rest_of tokens)
    else if starts PLUS tokens then read_signed false (rest_of tokens) else read_signed false tokens

unfoldable pub read_tuple : List Symbol → Option (List Literal × List Symbol)
read_tuple tokens = do
  rest ← expect OPEN tokens
  then_close (read_list read_literal rest)

-- what stands after the first name of a ref
abbrev pub read_ref_after : List ℕ → List Symbol → Option (ColumnRef × List Symbol)
read_ref_after first rest =
    if starts DOT rest then (read_id (rest_of rest) >>= λ p. Some (record { table = Some first; column = p.0 }, p.1)) else Some
    (record { table = None; column = first }, rest)

unfoldable pub read_ref : List Symbol → Option (ColumnRef × List Symbol)
read_ref tokens = do
  (first, rest) ← read_id tokens
  read_ref_after first rest

unfoldable pub read_side : List Symbol → Option (Side × List Symbol)
read_side tokens =
    if starts_id tokens then (read_ref tokens >>= λ p. Some (Placed p.0, p.1))
    else (read_literal tokens >>= λ p. Some (Fixed p.0, p.1))

-- the two ends of a range
unfoldable pub read_ends : List Symbol → Option ((Side × Side) × List Symbol)
read_ends tokens = do
  (low, rest) ← read_side tokens
  rest ← expect AND rest
  (high, rest) ← read_side rest
  Some ((low, high), rest)

-- after BETWEEN: the value is what was read before it
unfoldable pub read_range : Side → List Symbol → Option (Cond × List Symbol)
read_range (Placed value) tokens = do
  (low, rest) ← read_side tokens
  rest ← expect AND rest
  (high, rest) ← read_side rest
  Some (Between value low high, rest)
read_range (Fixed value) tokens = None

unfoldable pub read_sign_and_side : List Symbol → Option ((Sign × Side) × List Symbol)
read_sign_and_side tokens = do
  (sign, rest) ← read_sign tokens
  (right, rest) ← read_side rest
  Some ((sign, right), rest)

unfoldable pub read_comparison : Side → List Symbol → Option (Cond × List Symbol)
read_comparison left tokens = do
  (sign, rest) ← read_sign tokens
  (right, rest) ← read_side rest
  if is_literal left && is_literal right then None else Some (Compare left sign right, rest)

unfoldable pub read_simple : List Symbol → Option (Cond × List Symbol)
read_simple tokens = do
  (left, rest) ← read_side tokens
  if starts BETWEEN rest then read_range left (rest_of rest) else read_comparison left rest

-- a condition, with a reader of those between parentheses
unfoldable pub read_condition : (List Symbol → Option (List Cond × List Symbol)) → List Symbol → Option (List Cond × List Symbol)
read_condition between tokens =
    if starts OPEN tokens then then_close (between (rest_of tokens)) else (read_simple tokens >>= λ p. Some (p.0 ∷ [], p.1))

unfoldable pub read_conditions : ℕ → List Symbol → Option (List Cond × List Symbol)
read_conditions zero tokens = None
read_conditions (suc n) tokens = do
  (cs, rest) ← read_condition (read_conditions n) tokens
  if starts AND rest then (read_conditions n (rest_of rest) >>= λ q. Some (cs ++ q.0, q.1)) else Some (cs, rest)

abbrev pub read_all_conditions : List Symbol → Option (List Cond × List Symbol)
read_all_conditions tokens = read_conditions (length tokens) tokens

unfoldable pub read_where : List Symbol → Option (List Cond × List Symbol)
read_where tokens = if starts WHERE tokens then read_all_conditions (rest_of tokens) else Some ([], tokens)

-- the alias of a table: its name, where no other stands after it
unfoldable pub read_alias : List ℕ → List Symbol → Option (List ℕ × List Symbol)
read_alias table tokens =
    if starts AS tokens then read_id (rest_of tokens)
    else if starts_id tokens then read_id tokens else Some (table, tokens)

unfoldable pub read_item : List Symbol → Option (FromItem × List Symbol)
read_item tokens = do
  (table, rest) ← read_id tokens
  (alias, rest) ← read_alias table rest
  Some (record { table = table; alias = alias }, rest)

-- after the words of a join: its item, and the conditions after ON
unfoldable pub read_joined : List Symbol → Option (Source × List Symbol)
read_joined tokens = do
  (item, rest) ← read_item tokens
  rest ← expect ON rest
  (conditions, rest) ← read_all_conditions rest
  Some ((item ∷ [], conditions), rest)

unfoldable pub read_crossed : List Symbol → Option (Source × List Symbol)
read_crossed tokens = do
  rest ← expect JOIN tokens
  (item, rest) ← read_item rest
  Some ((item ∷ [], []), rest)

-- whether a join is next
unfoldable pub starts_join : List Symbol → Bool
starts_join tokens = if starts JOIN tokens then true else if starts INNER tokens then true else starts CROSS tokens

unfoldable pub read_join : List Symbol → Option (Source × List Symbol)
read_join tokens =
    if starts JOIN tokens then read_joined (rest_of tokens)
    else if starts INNER tokens then (expect JOIN (rest_of tokens) >>= read_joined)
    else read_crossed (rest_of tokens)

unfoldable pub read_joins : ℕ → List Symbol → Option (Source × List Symbol)
read_joins zero tokens = if starts_join tokens then None else Some (([], []), tokens)
read_joins (suc n) tokens =
    if starts_join tokens then (do
      (first, rest) ← read_join tokens
      (others, rest) ← read_joins n rest
      Some ((first.0 ++ others.0, first.1 ++ others.1), rest))
    else Some (([], []), tokens)

unfoldable pub read_source : List Symbol → Option (Source × List Symbol)
read_source tokens = do
  (item, rest) ← read_item tokens
  (joins, rest) ← read_joins (length rest) rest
  Some ((item ∷ joins.0, joins.1), rest)

-- source { , source }, with all their items and conditions
unfoldable pub read_sources : ℕ → List Symbol → Option (Source × List Symbol)
read_sources zero tokens = None
read_sources (suc n) tokens = do
  (first, rest) ← read_source tokens
  if starts COMMA rest then (read_sources n (rest_of rest) >>= λ q. Some ((first.0 ++ q.0.0, first.1 ++ q.0.1), q.1)) else Some (first, rest)

unfoldable pub read_output : List Symbol → Option ((Bool × List ColumnRef) × List Symbol)
read_output tokens =
    if starts STAR tokens then Some ((true, []), rest_of tokens)
    else (read_list read_ref tokens >>= λ p. Some ((false, p.0), p.1))

unfoldable pub after_distinct : List Symbol → List Symbol
after_distinct tokens = if starts DISTINCT tokens then rest_of tokens else tokens

-- SELECT [ DISTINCT ] ( * | ref { , ref } )
unfoldable pub read_head : List Symbol → Option (Head × List Symbol)
read_head tokens = do
  start ← expect SELECT tokens
  (output, rest) ← read_output (after_distinct start)
  Some (record { distinct = starts DISTINCT start; star = output.0; items = output.1 }, rest)

-- FROM source { , source } [ WHERE conditions ]
unfoldable pub read_body : List Symbol → Option (Body × List Symbol)
read_body tokens = do
  rest ← expect FROM tokens
  (sources, rest) ← read_sources (length rest) rest
  (conditions, rest) ← read_where rest
  Some ((sources.0, sources.1 ++ conditions), rest)

unfoldable pub read_block : List Symbol → Option (BlockTree × List Symbol)
read_block tokens = do
  (head, rest) ← read_head tokens
  (body, rest) ← read_body rest
  Some (block_of head.distinct head.star head.items body, rest)

unfoldable pub read_block_term : List Symbol → Option (Tree × List Symbol)
read_block_term tokens = do
  (block, rest) ← read_block tokens
  Some (Block block, rest)

-- a term, with a reader of a query between parentheses
unfoldable pub read_term : (List Symbol → Option (Tree × List Symbol)) → List Symbol → Option (Tree × List Symbol)
read_term between tokens =
    if starts OPEN tokens then then_close (between (rest_of tokens)) else read_block_term tokens

unfoldable pub read_query : ℕ → Front → List Symbol → Option (Tree × List Symbol)
read_query zero front tokens = None
read_query (suc n) front tokens = do
  (tree, rest) ← read_term (read_query n Nothing) tokens
  (if starts UNION rest then read_query n (BeforeUnion (joined_to front tree)) (rest_of rest)
      else if starts EXCEPT rest then read_query n (BeforeExcept (joined_to front tree)) (rest_of rest)
      else Some (joined_to front tree, rest))

abbrev pub read_whole_query : List Symbol → Option (Tree × List Symbol)
read_whole_query tokens = read_query (length tokens) Nothing tokens

unfoldable pub read_columns : List Symbol → Option (List Column × List Symbol)
read_columns tokens = do
  rest ← expect OPEN tokens
  then_close (read_list read_column rest)

-- ( [ ids ] )
unfoldable pub read_key : List Symbol → Option (List (List ℕ) × List Symbol)
read_key tokens = do
  rest ← expect OPEN tokens
  then_close (read_maybe_ids rest)

-- FETCH ( ids )
unfoldable pub read_fetched : List Symbol → Option (List (List ℕ) × List Symbol)
read_fetched tokens = do
  rest ← expect FETCH tokens
  rest ← expect OPEN rest
  then_close (read_list read_id rest)

unfoldable pub read_create_table : List Symbol → Option (Statement × List Symbol)
read_create_table tokens = do
  (name, rest) ← read_id tokens
  (columns, rest) ← read_columns rest
  Some (CreateTable name columns, rest)

unfoldable pub read_access_names : List Symbol → Option ((List ℕ × List ℕ) × List Symbol)
read_access_names tokens = do
  (name, rest) ← read_id tokens
  rest ← expect ON rest
  (table, rest) ← read_id rest
  Some ((name, table), rest)

unfoldable pub read_key_and_fetched : List Symbol → Option ((List (List ℕ) × List (List ℕ)) × List Symbol)
read_key_and_fetched tokens = do
  (key, rest) ← read_key tokens
  (fetched, rest) ← read_fetched rest
  Some ((key, fetched), rest)

unfoldable pub read_limit : List Symbol → Option (List ℕ × List Symbol)
read_limit tokens = do
  rest ← expect LIMIT tokens
  read_number rest

unfoldable pub read_access_shape : List Symbol → Option (((List (List ℕ) × List (List ℕ)) × List ℕ) × List Symbol)
read_access_shape tokens = do
  (columns, rest) ← read_key_and_fetched tokens
  (limit, rest) ← read_limit rest
  Some ((columns, limit), rest)

unfoldable pub read_create_access : List Symbol → Option (Statement × List Symbol)
read_create_access tokens = do
  (name, rest) ← read_id tokens
  rest ← expect ON rest
  (table, rest) ← read_id rest
  (key, rest) ← read_key rest
  (fetched, rest) ← read_fetched rest
  rest ← expect LIMIT rest
  (limit, rest) ← read_number rest
  Some (CreateAccess (record { name = name; table = table; key = key; fetched = fetched; limit = limit }), rest)

unfoldable pub read_drop_access : List Symbol → Option (Statement × List Symbol)
read_drop_access tokens = do
  (name, rest) ← read_id tokens
  Some (DropAccess name, rest)

unfoldable pub read_load : List Symbol → Option (Statement × List Symbol)
read_load tokens = do
  (table, rest) ← read_id tokens
  rest ← expect FROM rest
  (file, rest) ← read_quoted rest
  Some (Load table file, rest)

unfoldable pub read_insert : List Symbol → Option (Statement × List Symbol)
read_insert tokens = do
  (table, rest) ← read_id tokens
  rest ← expect VALUES rest
  (rows, rest) ← read_list read_tuple rest
  Some (Insert table rows, rest)

unfoldable pub read_delete : List Symbol → Option (Statement × List Symbol)
read_delete tokens = do
  (table, rest) ← read_id tokens
  (conditions, rest) ← read_where rest
  Some (Delete table conditions, rest)

unfoldable pub read_pairs : List ℕ → List Symbol → Option (Statement × List Symbol)
read_pairs table tokens = do
  (limit, rest) ← read_number tokens
  Some (DiscoverPairs table limit, rest)

unfoldable pub read_group : List ℕ → List Symbol → Option (Statement × List Symbol)
read_group table tokens = do
  (key, rest) ← read_key tokens
  (fetched, rest) ← read_fetched rest
  Some (DiscoverGroup table key fetched, rest)

unfoldable pub read_discover : List Symbol → Option (Statement × List Symbol)
read_discover tokens = do
  (table, rest) ← read_id tokens
  if starts LIMIT rest then read_pairs table (rest_of rest) else read_group table rest

unfoldable pub read_explain : List Symbol → Option (Statement × List Symbol)
read_explain tokens = do
  (tree, rest) ← read_whole_query tokens
  Some (Explain tree, rest)

unfoldable pub read_scan_ok : List Symbol → Option (Statement × List Symbol)
read_scan_ok tokens = do
  (tree, rest) ← read_whole_query tokens
  Some (ScanOk tree, rest)

unfoldable pub read_specialise : List Symbol → Option (Statement × List Symbol)
read_specialise tokens = do
  (tree, rest) ← read_block_term tokens
  Some (Specialise tree, rest)

unfoldable pub read_select : List Symbol → Option (Statement × List Symbol)
read_select tokens = do
  (tree, rest) ← read_whole_query tokens
  Some (Select tree, rest)

-- ---- grouped statements

-- after the parenthesis of MIN or MAX
abbrev pub read_closed_ref : List Symbol → Option (ColumnRef × List Symbol)
read_closed_ref tokens = then_close (read_ref tokens)

-- after the parenthesis of COUNT or SUM
unfoldable pub read_distinct_ref : List Symbol → Option (ColumnRef × List Symbol)
read_distinct_ref tokens = do
  rest ← expect DISTINCT tokens
  read_closed_ref rest

-- what a column is read as
abbrev pub made_of : (ColumnRef → GroupItem) → Option (ColumnRef × List Symbol) → Option (GroupItem × List Symbol)
made_of item read = read >>= λ p. Some (item p.0, p.1)

-- a function is told from a column of that name by the parenthesis after it
unfoldable pub read_group_item : List Symbol → Option (GroupItem × List Symbol)
read_group_item tokens =
    if begins_with (COUNT ∷ OPEN ∷ []) tokens then made_of Count (read_distinct_ref (rest_of (rest_of tokens)))
    else if begins_with (SUM ∷ OPEN ∷ []) tokens then made_of Sum (read_distinct_ref (rest_of (rest_of tokens)))
    else if begins_with (MIN ∷ OPEN ∷ []) tokens then made_of Least (read_closed_ref (rest_of (rest_of tokens)))
    else if begins_with (MAX ∷ OPEN ∷ []) tokens then made_of Greatest (read_closed_ref (rest_of (rest_of tokens)))
    else made_of Plain (read_ref tokens)

-- GROUP BY ref { , ref }
unfoldable pub read_group_keys : List Symbol → Option (List ColumnRef × List Symbol)
read_group_keys tokens = do
  rest ← expect GROUP tokens
  rest ← expect BY rest
  read_list read_ref rest

unfoldable pub read_grouped : List Symbol → Option (Statement × List Symbol)
read_grouped tokens = do
  start ← expect SELECT tokens
  (items, rest) ← read_list read_group_item start
  (body, rest) ← read_body rest
  (keys, rest) ← read_group_keys rest
  Some (Grouped items keys (Block (grouped_block items keys body.0 body.1)), rest)

-- what begins with no other words
unfoldable pub read_selection : List Symbol → Option (Statement × List Symbol)
read_selection tokens = if has_group tokens then read_grouped tokens else read_select tokens

-- ---- statements, by the words that they begin with

abbrev pub words_of : Opening → List Symbol
words_of opening.CreateTable = CREATE ∷ TABLE ∷ []
words_of opening.CreateAccess = CREATE ∷ ACCESS ∷ []
words_of opening.DropAccess = DROP ∷ ACCESS ∷ []
words_of opening.Load = LOAD ∷ []
words_of opening.Insert = INSERT ∷ INTO ∷ []
words_of opening.Delete = DELETE ∷ FROM ∷ []
words_of opening.Discover = DISCOVER ∷ []
words_of opening.Explain = EXPLAIN ∷ []
words_of opening.ScanOk = SCAN ∷ OK ∷ []
words_of opening.Specialise = SPECIALISE ∷ []

-- what stands after these words
abbrev pub read_opened : Opening → List Symbol → Option (Statement × List Symbol)
read_opened opening.CreateTable tokens = read_create_table tokens
read_opened opening.CreateAccess tokens = read_create_access tokens
read_opened opening.DropAccess tokens = read_drop_access tokens
read_opened opening.Load tokens = read_load tokens
read_opened opening.Insert tokens = read_insert tokens
read_opened opening.Delete tokens = read_delete tokens
read_opened opening.Discover tokens = read_discover tokens
read_opened opening.Explain tokens = read_explain tokens
read_opened opening.ScanOk tokens = read_scan_ok tokens
read_opened opening.Specialise tokens = read_specialise tokens

abbrev pub openings : List Opening
openings = opening.CreateTable ∷ opening.CreateAccess ∷ opening.DropAccess ∷ opening.Load ∷ opening.Insert ∷ opening.Delete ∷ opening.Discover
    ∷ opening.Explain ∷ opening.ScanOk ∷ opening.Specialise ∷ []

-- by the first of these openings that stands at the front; what begins with none is a query or a grouped statement
unfoldable pub read_first : List Opening → List Symbol → Option (Statement × List Symbol)
read_first [] tokens = read_selection tokens
read_first (first ∷ others) tokens =
    if begins_with (words_of first) tokens then read_opened first (after_all (words_of first) tokens) else read_first others tokens

-- a statement, or a query that lacks its DISTINCT
abbrev pub read_statement : List Symbol → Option (Statement × List Symbol)
read_statement tokens = read_first openings tokens
