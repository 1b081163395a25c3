-- What tokens spell meets what binding asks: no more blocks and conditions than tokens, and an atom in each block.
use Rattle.std.proofs.Common.{ℕ, ◌≤◌, Bool, List, [], ◌∷◌, ◌++◌, length, arith}
use Rattle.std.specs.List.{flat_map}
use Rattle.std.proofs.lemmas.List.{length-append}
use Rattle.beas_core.specs.declared.query.Sign.{Sign}
use Rattle.sql_text.specs.declared.tree.BlockTree.{BlockTree}
use Rattle.sql_text.specs.declared.tree.ColumnRef.{ColumnRef}
use Rattle.sql_text.specs.declared.tree.Cond.{Cond}
use Rattle.sql_text.specs.declared.tree.FromItem.{FromItem}
use Rattle.sql_text.specs.Grammar.{Commas, last, comma, IsSign, equal, differs, not_equal, less, at_most, more, at_least}
use Rattle.sql_text.specs.Grammar.{IsCondition, comparison, range, parentheses, IsConditions, last_condition, conjunction, IsWhere, no_where, where_}
use Rattle.sql_text.specs.Grammar.{IsJoins, no_join, join, inner_join, cross_join, Source, IsSource, joined_source, Body, IsBody, from_sources, IsHead, select_output, IsBlock, select_block}
use Rattle.sql_text.specs.Grammar.{IsTerm, single, nested, IsQuery, term, union, except}
use Rattle.sql_text.specs.Symbols.{Symbol}
use Rattle.sql_text.specs.Trees.{Tree}
use Rattle.sql_text.specs.Words.{AND, BETWEEN, CLOSE, COMMA, CROSS, EXCEPT, FROM, INNER, JOIN, ON, SELECT, UNION}
use Rattle.name_resolution.specs.Binding.{blocks_of}
use Rattle.name_resolution.proofs.Ranges.{Each, each_append, each_weaker}

sign_some : (a : List Symbol) (s : Sign) → IsSign a s → 1 ≤ length a
sign_some a s equal = omega arith
sign_some a s differs = omega arith
sign_some a s not_equal = omega arith
sign_some a s less = omega arith
sign_some a s at_most = omega arith
sign_some a s more = omega arith
sign_some a s at_least = omega arith

mutual
  condition_few : (a : List Symbol) (cs : List Cond) → IsCondition a cs → length cs ≤ length a
  condition_few a cs (comparison {a = x} {b = y} {c = z} {left} {right} {sign} l s r e) =
      omega (arith, sign_some y sign s, length-append (x ++ y) z, length-append x y)
  condition_few a cs (range {a = x} {b = y} {c = z} v l h) = omega (arith, length-append (x ++ BETWEEN ∷ y) (AND ∷ z))
  condition_few a cs (parentheses {a = inner} c) = omega (arith, conditions_few inner cs c, length-append inner (CLOSE ∷ []))

  conditions_few : (a : List Symbol) (cs : List Cond) → IsConditions a cs → length cs ≤ length a
  conditions_few a cs (last_condition c) = condition_few a cs c
  conditions_few a cs (conjunction {a = x} {b = y} {cs = ds} {ds = es} c d) =
      omega (arith, condition_few x ds c, conditions_few y es d, length-append x (AND ∷ y), length-append ds es)

where_few : (a : List Symbol) (cs : List Cond) → IsWhere a cs → length cs ≤ length a
where_few a cs no_where = omega arith
where_few a cs (where_ {a = b} c) = omega (arith, conditions_few b cs c)

joins_few : (a : List Symbol) (items : List FromItem) (cs : List Cond) → IsJoins a items cs → length cs ≤ length a
joins_few a items cs no_join = omega arith
joins_few a items cs (join {a = x} {b = y} {c = z} {i} {is} {cs = ds} {ds = es} item c later) =
    omega (
      arith,
      conditions_few y ds c,
      joins_few z is es later,
      length-append ((JOIN ∷ x) ++ (ON ∷ y)) z,
      length-append (JOIN ∷ x)
          (ON ∷ y),
      length-append ds es,
    )
joins_few a items cs (inner_join {a = x} {b = y} {c = z} {i} {is} {cs = ds} {ds = es} item c later) =
    omega (
      arith,
      conditions_few y ds c,
      joins_few z is es later,
      length-append ((INNER ∷ JOIN ∷ x) ++ (ON ∷ y)) z,
      length-append (INNER ∷ JOIN ∷ x) (ON ∷ y),
      length-append ds es,
    )
joins_few a items cs (cross_join {a = x} {b = y} {i} {is} {ds} item later) =
    omega (arith, joins_few y is ds later, length-append (CROSS ∷ JOIN ∷ x) y)

source_few : (a : List Symbol) (s : Source) → IsSource a s → (length s.1 ≤ length a) × (1 ≤ length s.0)
source_few a s (joined_source {a = x} {b = y} {i} {is} {cs} item later) = (omega (arith, joins_few y is cs later, length-append x y), omega arith)

sources_few : (a : List Symbol) (ss : List Source) → Commas IsSource a ss → (length (flat_map (λ (s : Source). s.1) ss) ≤ length a) × (1 ≤ length
    (flat_map (λ (s : Source). s.0) ss))
sources_few a ss (last {x = s} one) =
    let few = source_few a s one in
    (omega (arith, few.0, length-append s.1 []), omega (arith, few.1, length-append s.0 []))
sources_few a ss (comma {a = x} {b = y} {x = s} {xs = rest} one later) =
    let few = source_few x s one in
    let others = sources_few y rest later in (
      omega (arith, few.0, others.0, length-append s.1 (flat_map (λ (s : Source). s.1) rest), length-append x (COMMA ∷ y)),
      omega (arith, few.1, length-append s.0 (flat_map (λ (s : Source). s.0) rest)),
    )

body_few : (a : List Symbol) (b : Body) → IsBody a b → (length b.1 ≤ length a) × (1 ≤ length b.0)
body_few a b (from_sources {a = x} {b = y} {ss} {cs} sources c) =
    let few = sources_few x ss sources in (
      omega (arith, few.0, where_few y cs c, length-append (flat_map (λ (s : Source). s.1) ss) cs, length-append (FROM ∷ x) y),
      few.1,
    )

block_few : (a : List Symbol) (b : BlockTree) → IsBlock a b → (length b.conditions ≤ length a) × (1 ≤ length b.from_items)
block_few a b (select_block {a = x} {b = y} {body = body} h k) =
    let few = body_few y body k in
    (omega (arith, few.0, length-append x y), few.1)

head_some : (a : List Symbol) (distinct star : Bool) (rs : List ColumnRef) → IsHead a distinct star rs → 1 ≤ length a
head_some a distinct star rs (select_output {a = x} {b = y} d o) = omega (arith, length-append (SELECT ∷ x) y)

block_some : (a : List Symbol) (b : BlockTree) → IsBlock a b → 1 ≤ length a
block_some a b (select_block {a = x} {b = y} {distinct = distinct} {star = star} {rs = rs} h k) = omega
    (arith, head_some x distinct star rs h, length-append x y)

-- at most so many blocks, with at most so many conditions each and at least one atom
pub record IsFew (n : ℕ) (t : Tree) : Type 0 where
  pub blocks : length (blocks_of t) ≤ n
  pub conditions : Each (λ b. length b.conditions ≤ n) (blocks_of t)
  pub atoms : Each (λ b. 1 ≤ length b.from_items) (blocks_of t)

few_more : (m n : ℕ) (t : Tree) → m ≤ n → IsFew m t → IsFew n t
few_more m n t later few = record {
  blocks = omega (arith, few.blocks);
  conditions = each_weaker (λ (b : BlockTree). length b.conditions ≤ m) (λ (b : BlockTree). length b.conditions ≤ n) (λ b one. omega (arith, one))
      (blocks_of t) few.conditions;
  atoms = few.atoms;
}

both_conditions : (k m n : ℕ) (l r : List BlockTree) → k ≤ n → m ≤ n → Each (λ b. length b.conditions ≤ k) l → Each (λ b. length b.conditions ≤ m) r
    → Each (λ b. length b.conditions ≤ n) (l ++ r)
both_conditions k m n l r one two first second =
    each_append (λ (b : BlockTree). length b.conditions ≤ n) l r
    (each_weaker (λ (b : BlockTree). length b.conditions ≤ k) (λ (b : BlockTree). length b.conditions ≤ n) (λ b few. omega (arith, few)) l first)
    (each_weaker (λ (b : BlockTree). length b.conditions ≤ m) (λ (b : BlockTree). length b.conditions ≤ n) (λ b few. omega (arith, few)) r second)

mutual
  term_few : (a : List Symbol) (t : Tree) → IsTerm a t → IsFew (length a) t
  term_few a t (single {b = block} h) =
      let few = block_few a block h in record { blocks = omega (arith, few.0, block_some a block h); conditions = (few.0, tt); atoms = (few.1, tt) }
  term_few a t (nested {a = inner} h) = few_more (length inner) (length a) t (omega (arith, length-append inner (CLOSE ∷ []))) (query_few inner t h)

  pub query_few : (a : List Symbol) (t : Tree) → IsQuery a t → IsFew (length a) t
  query_few a t (term h) = term_few a t h
  query_few a t (union {a = x} {b = y} {t = l} {u = r} h k) =
      let one = query_few x l h in
      let two = term_few y r k in
      record {
        blocks = omega (arith, one.blocks, two.blocks, length-append x (UNION ∷ y), length-append (blocks_of l) (blocks_of r));
        conditions = both_conditions (length x) (length y) (length a) (blocks_of l) (blocks_of r) (omega (arith, length-append x (UNION ∷ y))) (omega
            (arith, length-append x (UNION ∷ y)))
            one.conditions two.conditions;
        atoms = each_append (λ (b : BlockTree). 1 ≤ length b.from_items) (blocks_of l) (blocks_of r) one.atoms two.atoms;
      }
  query_few a t (except {a = x} {b = y} {t = l} {u = r} h k) =
      let one = query_few x l h in
      let two = term_few y r k in
      record {
        blocks = omega (arith, one.blocks, two.blocks, length-append x (EXCEPT ∷ y), length-append (blocks_of l) (blocks_of r));
        conditions = both_conditions (length x) (length y) (length a) (blocks_of l) (blocks_of r) (omega (arith, length-append x (EXCEPT ∷ y))) (omega
            (arith, length-append x (EXCEPT ∷ y)))
            one.conditions two.conditions;
        atoms = each_append (λ (b : BlockTree). 1 ≤ length b.from_items) (blocks_of l) (blocks_of r) one.atoms two.atoms;
      }
