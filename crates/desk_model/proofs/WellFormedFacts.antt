-- What tokens spell has no more parts than there are tokens, and those that a statement asks for.
use Rattle.std.proofs.Common.{ℕ, ◌+◌, ◌-◌, ◌^◌, ◌<◌, ◌≤◌, ◌≡◌, List, [], ◌∷◌, ◌++◌, length, All, true, false, Some, Ok, arith, refl}
use Rattle.std.proofs.lemmas.List.{length-append, length-map}
use Rattle.std.proofs.lemmas.List.Elements.{All-cons, All-nil, All-weaker}
use Rattle.sql_parser.specs.Outcome.{Parses}
use Rattle.sql_tokens.specs.declared.token.Token.{Token}
use Rattle.sql_text.specs.declared.tree.BlockTree.{BlockTree}
use Rattle.sql_text.specs.declared.tree.ColumnRef.{ColumnRef}
use Rattle.sql_text.specs.declared.tree.Cond.{Cond}
use Rattle.sql_text.specs.declared.tree.GroupItem.{GroupItem}
use Rattle.sql_text.specs.declared.tree.Literal.{Literal}
use Rattle.sql_text.specs.declared.tree.Statement.{Statement}
use Rattle.sql_text.specs.Grammar.{Commas, last, comma, IsId, IsTuple, tuple, IsWhere, alone, no_join, joined_source, all_rows, all_columns, select_output, from_sources, select_block, single, term, IsQuery, Spells, create_table, create_access, drop_access, load, insert, delete, discover_group, discover_pairs, grouped, over_query, IsOverQuery, select, explain, scan_ok, specialise, Body, IsBody, block_of, body_of}
use Rattle.sql_text.specs.Grouping.{grouped_block}
use Rattle.sql_text.specs.Symbols.{Symbol, symbol_of, symbols}
use Rattle.sql_text.specs.Trees.{Tree, Block}
use Rattle.sql_text.specs.Words.{BY, GROUP, OPEN, CLOSE, COMMA, INSERT, INTO, VALUES, DELETE, FROM, SELECT, STAR}
use Rattle.name_resolution.specs.Binding.{blocks_of}
use Rattle.name_resolution.proofs.BindFacts.{all_of}
use Rattle.name_resolution.proofs.SpelledTrees.{IsFew, query_few}
use Rattle.piece_reader.specs.declared.event.Event.{Event}
use Rattle.piece_reader.specs.Sayings.{IsReadAs, statement_in}
use Rattle.piece_reader.proofs.SayingFacts.{statement_is_in}
use Rattle.session.specs.Statements.{GroupedIsWellFormed, StatementIsWellFormed, TreeIsWellFormed}

-- ---- lists

module _ {X : Type 0} (Spelled : List Symbol → X → Type 0) where
  commas_some : (a : List Symbol) (xs : List X) → Commas Spelled a xs → 1 ≤ length xs
  commas_some a xs (last h) = omega arith
  commas_some a xs (comma h hs) = omega arith

  commas_few : (a : List Symbol) (xs : List X) → Commas Spelled a xs → length xs ≤ length a + 1
  commas_few a xs (last h) = omega arith
  commas_few a xs (comma {a = x} {b = y} {x = z} {xs = zs} h hs) = omega (arith, commas_few y zs hs, length-append x (COMMA ∷ y))

  commas_all : (P : X → Type 0) (n : ℕ) → ((a : List Symbol) (x : X) → Spelled a x → length a ≤ n → P x)
      → (a : List Symbol) (xs : List X) → Commas Spelled a xs → length a ≤ n → All P xs
  commas_all P n each a xs (last {x = z} h) le = All-cons P z [] (each a z h le) (All-nil P)
  commas_all P n each a xs (comma {a = x} {b = y} {x = z} {xs = zs} h hs) le =
      let sum = length-append x (COMMA ∷ y) in
      All-cons P z zs (each x z h (omega arith)) (commas_all P n each y zs hs (omega arith))

tuple_few : (n : ℕ) (a : List Symbol) (literals : List Literal) → IsTuple a literals → length a ≤ n → length literals ≤ n
tuple_few n a literals (tuple {a = inner} h) le = omega (arith, commas_few _ inner literals h, length-append (OPEN ∷ inner) (CLOSE ∷ []))

-- ---- a DELETE has the conditions of a query over its table

query_where : (a d : List Symbol) (t : List ℕ) (cs : List Cond) → IsId a t → IsWhere d cs
    → IsQuery ((SELECT ∷ STAR ∷ []) ++ ((FROM ∷ (a ++ [])) ++ d))
    (Block (block_of false true [] (body_of (((record { table = t; alias = t } ∷ []), []) ∷ []) cs)))
query_where a d t cs h w = term (single (select_block (select_output all_rows all_columns) (from_sources (last (joined_source (alone h) no_join)) w)))

where_few : (a d : List Symbol) (t : List ℕ) (cs : List Cond) → IsId a t → IsWhere d cs → length cs ≤ 3 + length a + length d
where_few a d t cs h w =
    let few = query_few _ _ (query_where a d t cs h w) in
    let one : length cs ≤ length ((SELECT ∷ STAR ∷ []) ++ ((FROM ∷ (a ++ [])) ++ d)) = few.conditions.0 in
    omega (arith, one, length-append (FROM ∷ (a ++ [])) d, length-append a [])

-- ---- queries

tree_is : (n : ℕ) (t : Tree) → IsFew n t → n < 2 ^ 32 → TreeIsWellFormed t
tree_is n t few below = record {
  few_blocks = omega (arith, few.blocks);
  few_conditions = All-weaker (λ b. length b.conditions ≤ n) (λ b. length b.conditions < 2 ^ 32) (λ b le. omega (arith, le)) (blocks_of t)
      (all_of (λ b. length b.conditions ≤ n) (blocks_of t) few.conditions);
  some_table = all_of (λ b. 1 ≤ length b.from_items) (blocks_of t) few.atoms;
}

over_well_formed : {a : List Symbol} {t : Tree} {s : Statement} → IsOverQuery a t s → length a < 2 ^ 32 - 1 → StatementIsWellFormed s
over_well_formed (select {a = a} {t = t} q) le = tree_is (length a) t (query_few a t q) (omega (arith, le))
over_well_formed (explain {a = a} {t = t} q) le = tree_is (length a) t (query_few a t q) (omega (arith, le))
over_well_formed (scan_ok {a = a} {t = t} q) le = tree_is (length a) t (query_few a t q) (omega (arith, le))
over_well_formed (specialise {a = a} {b = b} k) le = tree_is (length a) (Block b) (query_few a (Block b) (term (single k))) (omega (arith, le))

-- a grouped statement has the conditions of a query over the same tables
body_few : (b : List Symbol) (body : Body) → IsBody b body → IsFew (length ((SELECT ∷ STAR ∷ []) ++ b)) (Block (block_of false true [] body))
body_few b body k = query_few _ _ (term (single (select_block (select_output all_rows all_columns) k)))

grouped_formed : (b : List Symbol) (body : Body) (items : List GroupItem) (keys : List ColumnRef) → IsBody b body → length b < 2 ^ 32 - 2
    → GroupedIsWellFormed items keys (Block (grouped_block items keys body.0 body.1))
grouped_formed b body items keys k le =
    let few = body_few b body k in
    let tree : BlockTree = grouped_block items keys body.0 body.1 in
    let conditions : length body.1 ≤ length ((SELECT ∷ STAR ∷ []) ++ b) = few.conditions.0 in
    let atoms : 1 ≤ length body.0 = few.atoms.0 in
    record {
      tree = record {
        few_blocks = omega arith;
        few_conditions = All-cons (λ (x : BlockTree). length x.conditions < 2 ^ 32) tree [] (omega (arith, conditions, le))
            (All-nil (λ (x : BlockTree). length x.conditions < 2 ^ 32));
        some_table = All-cons (λ (x : BlockTree). 1 ≤ length x.from_items) tree [] atoms (All-nil (λ (x : BlockTree). 1 ≤ length x.from_items));
      };
      over = record { from_items = body.0; conditions = body.1; is_block = refl };
    }

pub well_formed : (a : List Symbol) (s : Statement) → Spells a s → length a < 2 ^ 32 - 1 → StatementIsWellFormed s
well_formed a s (create_table {b = y} {cs = columns} n h) le = commas_some _ y columns h
well_formed a s (create_access {d = y} {fetched = fetched} n t key h) le = commas_some _ y fetched h
well_formed a s (drop_access n) le = tt
well_formed a s (load t) le = tt
well_formed a s (insert {a = x} {b = y} {rows = rows} t h) le =
    let sum = length-append (INSERT ∷ INTO ∷ x) (VALUES ∷ y) in
    record {
      few = omega (arith, commas_few _ y rows h);
      narrow = commas_all IsTuple (λ literals. length literals < 2 ^ 32) (length y)
          (λ b literals t below. omega (arith, tuple_few (length y) b literals t below)) y rows h (omega arith);
    }
well_formed a s (delete {a = x} {b = y} {t = t} {cs = cs} n w) le =
    omega (arith, where_few x y t cs n w, length-append (DELETE ∷ FROM ∷ x) y)
well_formed a s (discover_group t key fetched) le = tt
well_formed a s (discover_pairs t) le = tt
well_formed a s (grouped {a = x} {b = y} {c = z} {items = items} {body = body} {keys = keys} h k r) le =
    grouped_formed y body items keys k (omega (arith, le, length-append ((SELECT ∷ x) ++ y) (GROUP ∷ BY ∷ z), length-append (SELECT ∷ x) y))
well_formed a s (over_query o d) le = over_well_formed o le

-- the same of what the tokens of a piece are read as
pub parsed_well : (tokens : List Token) (s : Statement) → Parses (symbols tokens) (Ok s) → length tokens < 2 ^ 32 - 1 → StatementIsWellFormed s
parsed_well tokens s spelled few =
    let same = length-map tokens (λ (token : Token). symbol_of token.kind token.text) in
    well_formed (symbols tokens) s spelled.1 (omega arith)

-- and of a statement that a piece says, of a session or of none
pub said_well : (tokens : List Token) (saying : Event) (s : Statement) → IsReadAs tokens (Ok saying) → statement_in saying ≡ Some s
    → length tokens < 2 ^ 32 - 1 → StatementIsWellFormed s
said_well tokens saying s reading stated few =
    let same = length-map tokens (λ (token : Token). symbol_of token.kind token.text) in
    let spelled = statement_is_in (symbols tokens) (Ok saying) reading s stated in
    well_formed spelled.part s spelled.parses.1 (omega (arith, spelled.few))
