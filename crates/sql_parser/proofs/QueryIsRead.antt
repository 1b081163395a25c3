-- Conditions, blocks, queries and statements that are spelled are read.
use Rattle.std.proofs.Common.{◌≡◌, ℕ, zero, suc, ◌+◌, ◌-◌, ◌<◌, ◌≤◌, Bool, true, false, cond, List, [], ◌∷◌, ◌++◌, length, Option, Some, refl, sym, ap, ◌∙◌, append_assoc, arith, length-append}
use Rattle.std.specs.Prelude.{codes, bytes_eq}
use Rattle.std.proofs.lemmas.List.{append-nil}
use Rattle.sql_text.specs.declared.tree.ColumnRef.{ColumnRef}
use Rattle.sql_text.specs.declared.tree.Cond.{Cond}
use Rattle.sql_text.specs.declared.tree.FromItem.{FromItem}
use Rattle.sql_text.specs.declared.tree.BlockTree.{BlockTree}
use Rattle.sql_text.specs.Trees.{Tree, Block}
use Rattle.beas_core.specs.Spelling.{is_reserved, reserved_words}
use Rattle.beas_core.proofs.Identifiers.{reserved_is_no_name}
use Rattle.sql_text.specs.Symbols.{Symbol, word, mark}
use Rattle.sql_text.specs.Grammar.{Commas, last, comma, IsRef, IsCondition, comparison, range, parentheses, IsConditions, last_condition, conjunction, IsWhere, no_where, where_, IsItem, alone, alias, as_alias, IsJoins, no_join, join, inner_join, cross_join, Source, IsSource, joined_source, IsDistinct, all_rows, distinct_rows, IsOutput, all_columns, columns, IsHead, select_output, Body, IsBody, from_sources, block_of, IsBlock, select_block, IsTerm, single, nested, IsQuery, term, union, except}
use Rattle.sql_text.specs.Words.{AND, AS, BETWEEN, CROSS, DISTINCT, EXCEPT, FROM, INNER, JOIN, ON, SELECT, UNION, WHERE, OPEN, CLOSE, COMMA, DOT, STAR}
use Rattle.std.specs.List.{flat_map}
use Rattle.std.proofs.lemmas.List.Concat.{flat_map-cons}
use Rattle.sql_parser.specs.declared.blocks.Head.{Head}
use Rattle.sql_parser.specs.declared.queries.Front.{Front}
use Rattle.sql_parser.specs.declared.queries.Front.TheVariants.{Nothing, BeforeUnion, BeforeExcept}
use Rattle.sql_parser.specs.Fronts.{joined_to}
use Rattle.token_reader.specs.Reading.{starts, rest_of, starts_id}
use Rattle.sql_parser.specs.Reading.{read_ref, read_condition, read_conditions, read_where, read_alias, read_item, read_joined, read_crossed, starts_join, read_join, read_joins, read_source, read_sources, read_output, after_distinct, read_head, read_body, read_block, read_block_term, read_term, read_query, read_whole_query}
use Rattle.sql_parser.proofs.SpelledIsRead.{id-reads, id-starts, id-no_word, id-some, list-reads, commas-start, closed-reads, NoDot, ref-reads, ref-some, ref-no_word, ref-no_mark, side-no_open, simple-compare, simple-range, condition-simple, condition-some, three}

condition-closed : (n : ℕ) (a : List Symbol) (cs : List Cond) (rest : List Symbol) → read_conditions n (a ++ CLOSE ∷ rest) ≡ Some (cs, CLOSE ∷ rest)
    → read_condition (read_conditions n) ((OPEN ∷ a ++ CLOSE ∷ []) ++ rest) ≡ Some (cs, rest)
unfolding read_condition starts rest_of
condition-closed n a cs rest e =
    ap (λ t. read_condition (read_conditions n) (OPEN ∷ t)) (append_assoc a (CLOSE ∷ []) rest) ∙ closed-reads (read_conditions n (a ++ CLOSE ∷ rest)) cs rest e

conditions-last : (n : ℕ) (tokens : List Symbol) (cs : List Cond) (rest : List Symbol) → read_condition (read_conditions n) tokens ≡ Some (cs, rest)
    → starts AND rest ≡ false → read_conditions (suc n) tokens ≡ Some (cs, rest)
unfolding read_conditions
conditions-last n tokens cs rest e t = rw (e, t) refl

conditions-then : (n : ℕ) (tokens : List Symbol) (cs ds : List Cond) (next rest : List Symbol)
    → read_condition (read_conditions n) tokens ≡ Some (cs, AND ∷ next) → read_conditions n next ≡ Some (ds, rest)
    → read_conditions (suc n) tokens ≡ Some (cs ++ ds, rest)
unfolding read_conditions starts rest_of
conditions-then n tokens cs ds next rest e f = rw (e, f) refl

close-no_dot : (rest : List Symbol) → starts DOT (CLOSE ∷ rest) ≡ false
unfolding starts
close-no_dot rest = refl

close-no_and : (rest : List Symbol) → starts AND (CLOSE ∷ rest) ≡ false
unfolding starts
close-no_and rest = refl

and-no_dot : (rest : List Symbol) → starts DOT (AND ∷ rest) ≡ false
unfolding starts
and-no_dot rest = refl

mutual
  condition-reads : (n : ℕ) {a : List Symbol} {cs : List Cond} → IsCondition a cs → length a ≤ suc n → (rest : List Symbol) → NoDot rest
      → read_condition (read_conditions n) (a ++ rest) ≡ Some (cs, rest)
  condition-reads n (comparison {a} {b} {c} l s r some) le rest stop =
      condition-simple n ((a ++ b ++ c) ++ rest) _ rest (rw (three a b c rest) (side-no_open l (b ++ (c ++ rest)))) (simple-compare l s r some rest stop)
  condition-reads n (range {a} {b} {c} r l h) le rest stop =
      condition-simple n ((a ++ BETWEEN ∷ b ++ AND ∷ c) ++ rest) _ rest
      (rw (three a (BETWEEN ∷ b) (AND ∷ c) rest) (ref-no_mark r (codes "(") (BETWEEN ∷ (b ++ (AND ∷ (c ++ rest)))))) (simple-range r l h rest stop)
  condition-reads n (parentheses {a} {cs} h) le rest stop =
      condition-closed n a cs rest (conditions-read n h (omega (arith, length-append a (CLOSE ∷ []))) (CLOSE ∷ rest) (close-no_dot rest) (close-no_and rest))

  conditions-read : (n : ℕ) {a : List Symbol} {cs : List Cond} → IsConditions a cs → length a ≤ n → (rest : List Symbol) → NoDot rest → starts AND rest ≡ false
      → read_conditions n (a ++ rest) ≡ Some (cs, rest)
  conditions-read zero (last_condition h) le rest stop done = absurd (omega (arith, condition-some h))
  conditions-read zero (conjunction {a} {b} h hs) le rest stop done = absurd (omega (arith, length-append a (AND ∷ b)))
  conditions-read (suc n) (last_condition {a} {cs} h) le rest stop done = conditions-last n (a ++ rest) cs rest (condition-reads n h le rest stop) done
  conditions-read (suc n) (conjunction {a} {b} {cs} {ds} h hs) le rest stop done =
      let sum = length-append a (AND ∷ b) in
      let fits : length a ≤ suc n = omega arith in
      let fits2 : length b ≤ n = omega arith in
      ap (read_conditions (suc n)) (append_assoc a (AND ∷ b) rest)
      ∙ conditions-then n (a ++ AND ∷ (b ++ rest)) cs ds (b ++ rest) rest (condition-reads n h fits (AND ∷ (b ++ rest)) (and-no_dot (b ++ rest)))
      (conditions-read n hs fits2 rest stop done)

pub all_conditions-read : {a : List Symbol} {cs : List Cond} → IsConditions a cs → (rest : List Symbol) → NoDot rest → starts AND rest ≡ false
    → read_conditions (length (a ++ rest)) (a ++ rest) ≡ Some (cs, rest)
all_conditions-read {a} h rest stop done = conditions-read (length (a ++ rest)) h (omega (arith, length-append a rest)) rest stop done

-- ---- what ends a FROM item, a source, and a block

abbrev Never : Symbol → List Symbol → Type 0
Never s rest = starts s rest ≡ false

pub record SourceEnds (rest : List Symbol) : Type 0 where
  pub dot : Never DOT rest
  pub and_ : Never AND rest
  pub alias_ : Never AS rest
  pub name : starts_id rest ≡ false
  pub join : starts_join rest ≡ false

pub record BlockEnds (rest : List Symbol) : Type 0 where
  pub source : SourceEnds rest
  pub comma : Never COMMA rest
  pub where_ : Never WHERE rest

pub no_name : (w : List ℕ) (rest : List Symbol) → is_reserved w ≡ true → starts_id (word w ∷ rest) ≡ false
unfolding starts_id
no_name w rest r = reserved_is_no_name w r

mark-no_name : (m : List ℕ) (rest : List Symbol) → starts_id (mark m ∷ rest) ≡ false
unfolding starts_id
mark-no_name m rest = refl

-- a reserved word that is none of those that go on with a source ends it
pub word-ends : (w : List ℕ) (rest : List Symbol) → is_reserved w ≡ true → bytes_eq (codes "and") w ≡ false → bytes_eq (codes "as") w ≡ false
    → bytes_eq (codes "join") w ≡ false → bytes_eq (codes "inner") w ≡ false → bytes_eq (codes "cross") w ≡ false → SourceEnds (word w ∷ rest)
unfolding starts starts_join
word-ends w rest r a s j i c = record { dot = refl; and_ = a; alias_ = s; name = no_name w rest r; join = rw (j, i) c }

comma-ends : (rest : List Symbol) → SourceEnds (COMMA ∷ rest)
unfolding starts starts_join
comma-ends rest = record { dot = refl; and_ = refl; alias_ = refl; name = mark-no_name (codes ",") rest; join = refl }

pub close-ends : (rest : List Symbol) → BlockEnds (CLOSE ∷ rest)
unfolding starts starts_join
close-ends rest = record {
  source = record { dot = refl; and_ = refl; alias_ = refl; name = mark-no_name (codes ")") rest; join = refl };
  comma = refl;
  where_ = refl;
}

pub nothing-ends : BlockEnds []
unfolding starts starts_join starts_id
nothing-ends = record { source = record { dot = refl; and_ = refl; alias_ = refl; name = refl; join = refl }; comma = refl; where_ = refl }

-- the words of a query that are no names
record AreReserved : Type 0 where
  pub union_word : is_reserved (codes "union") ≡ true
  pub except_word : is_reserved (codes "except") ≡ true
  pub where_word : is_reserved (codes "where") ≡ true
  pub as_word : is_reserved (codes "as") ≡ true
  pub on_word : is_reserved (codes "on") ≡ true
  pub join_word : is_reserved (codes "join") ≡ true
  pub inner_word : is_reserved (codes "inner") ≡ true
  pub cross_word : is_reserved (codes "cross") ≡ true
  pub distinct_word : is_reserved (codes "distinct") ≡ true

reserved : AreReserved
unfolding is_reserved reserved_words
reserved = record {
  union_word = refl;
  except_word = refl;
  where_word = refl;
  as_word = refl;
  on_word = refl;
  join_word = refl;
  inner_word = refl;
  cross_word = refl;
  distinct_word = refl;
}

pub union-ends : (rest : List Symbol) → BlockEnds (UNION ∷ rest)
unfolding starts
union-ends rest = record { source = word-ends (codes "union") rest reserved.union_word refl refl refl refl refl; comma = refl; where_ = refl }

pub except-ends : (rest : List Symbol) → BlockEnds (EXCEPT ∷ rest)
unfolding starts
except-ends rest = record { source = word-ends (codes "except") rest reserved.except_word refl refl refl refl refl; comma = refl; where_ = refl }

pub where-reads : {a : List Symbol} {cs : List Cond} → IsWhere a cs → (rest : List Symbol) → NoDot rest → Never AND rest → Never WHERE rest
    → read_where (a ++ rest) ≡ Some (cs, rest)
unfolding read_where starts rest_of
where-reads no_where rest d a w = rw w refl
where-reads (where_ h) rest d a w = all_conditions-read h rest d a

where-ends : {a : List Symbol} {cs : List Cond} → IsWhere a cs → (rest : List Symbol) → SourceEnds rest → SourceEnds (a ++ rest)
where-ends no_where rest ends = ends
where-ends (where_ {a} h) rest ends = word-ends (codes "where") (a ++ rest) reserved.where_word refl refl refl refl refl

where-no_comma : {a : List Symbol} {cs : List Cond} → IsWhere a cs → (rest : List Symbol) → Never COMMA rest → Never COMMA (a ++ rest)
unfolding starts
where-no_comma no_where rest c = c
where-no_comma (where_ h) rest c = refl

-- ---- FROM items and joins

item-reads : {a : List Symbol} {i : FromItem} → IsItem a i → (rest : List Symbol) → Never AS rest → starts_id rest ≡ false
    → read_item (a ++ rest) ≡ Some (i, rest)
unfolding read_item read_alias starts rest_of
item-reads (alone i) rest no_as name = rw (id-reads i rest, no_as, name) refl
item-reads (alias {a} {b} i j) rest no_as name = ap read_item (append_assoc a b rest)
    ∙ rw (id-reads i (b ++ rest), id-no_word j (codes "as") rest reserved.as_word, id-starts j rest, id-reads j rest) refl
item-reads (as_alias {a} {b} i j) rest no_as name = ap read_item (append_assoc a (AS ∷ b) rest) ∙ rw (id-reads i (AS ∷ (b ++ rest)), id-reads j rest) refl

item-some : {a : List Symbol} {i : FromItem} → IsItem a i → 0 < length a
item-some (alone i) = id-some i
item-some (alias {a} {b} i j) = omega (arith, length-append a b, id-some i)
item-some (as_alias {a} {b} i j) = omega (arith, length-append a (AS ∷ b))

on-no_as : (rest : List Symbol) → Never AS (ON ∷ rest)
unfolding starts
on-no_as rest = refl

joined-reads : {a b : List Symbol} {i : FromItem} {cs : List Cond} → IsItem a i → IsConditions b cs → (rest : List Symbol) → NoDot rest → Never AND rest
    → read_joined (a ++ (ON ∷ (b ++ rest))) ≡ Some ((i ∷ [], cs), rest)
unfolding read_joined starts rest_of
joined-reads {a} {b} i h rest d n =
    rw (item-reads i (ON ∷ (b ++ rest)) (on-no_as (b ++ rest)) (no_name (codes "on") (b ++ rest) reserved.on_word), all_conditions-read h rest d n) refl

joins-no : (w : List ℕ) → bytes_eq w (codes "join") ≡ false → bytes_eq w (codes "inner") ≡ false → bytes_eq w (codes "cross") ≡ false
    → {a : List Symbol} {is : List FromItem} {cs : List Cond} → IsJoins a is cs → (rest : List Symbol) → Never (word w) rest → Never (word w) (a ++ rest)
unfolding starts
joins-no w j i c no_join rest n = n
joins-no w j i c (join h k l) rest n = j
joins-no w j i c (inner_join h k l) rest n = i
joins-no w j i c (cross_join h l) rest n = c

joins-no_dot : {a : List Symbol} {is : List FromItem} {cs : List Cond} → IsJoins a is cs → (rest : List Symbol) → NoDot rest → NoDot (a ++ rest)
unfolding starts
joins-no_dot no_join rest n = n
joins-no_dot (join h k l) rest n = refl
joins-no_dot (inner_join h k l) rest n = refl
joins-no_dot (cross_join h l) rest n = refl

joins-no_name : {a : List Symbol} {is : List FromItem} {cs : List Cond} → IsJoins a is cs → (rest : List Symbol) → starts_id rest ≡ false
    → starts_id (a ++ rest) ≡ false
joins-no_name no_join rest n = n
joins-no_name (join h k l) rest n = no_name (codes "join") _ reserved.join_word
joins-no_name (inner_join h k l) rest n = no_name (codes "inner") _ reserved.inner_word
joins-no_name (cross_join h l) rest n = no_name (codes "cross") _ reserved.cross_word

both-added : (n : ℕ) (tokens : List Symbol) (first others : Source) (next rest : List Symbol) → starts_join tokens ≡ true
    → read_join tokens ≡ Some (first, next) → read_joins n next ≡ Some (others, rest)
    → read_joins (suc n) tokens ≡ Some ((first.0 ++ others.0, first.1 ++ others.1), rest)
unfolding read_joins
both-added n tokens first others next rest t e f = rw (t, e, f) refl

is-join : (rest : List Symbol) → (starts_join (JOIN ∷ rest) ≡ true) × (starts_join (INNER ∷ rest) ≡ true) × (starts_join (CROSS ∷ rest) ≡ true)
unfolding starts_join starts
is-join rest = (refl, refl, refl)

join-reads : (first : Source) (next rest : List Symbol) → read_joined next ≡ Some (first, rest)
    → (read_join (JOIN ∷ next) ≡ Some (first, rest)) × (read_join (INNER ∷ JOIN ∷ next) ≡ Some (first, rest))
unfolding read_join starts rest_of
join-reads first next rest e = (e, e)

cross-reads : {a : List Symbol} {i : FromItem} → IsItem a i → (rest : List Symbol) → Never AS rest → starts_id rest ≡ false
    → read_join (CROSS ∷ JOIN ∷ (a ++ rest)) ≡ Some ((i ∷ [], []), rest)
unfolding read_join read_crossed starts rest_of
cross-reads i rest no_as name = rw (item-reads i rest no_as name) refl

joins-stop : (n : ℕ) (rest : List Symbol) → starts_join rest ≡ false → read_joins n rest ≡ Some (([], []), rest)
unfolding read_joins
joins-stop zero rest e = rw e refl
joins-stop (suc n) rest e = rw e refl

joins-read : (n : ℕ) {a : List Symbol} {is : List FromItem} {cs : List Cond} → IsJoins a is cs → length a ≤ n → (rest : List Symbol) → SourceEnds rest
    → read_joins n (a ++ rest) ≡ Some ((is, cs), rest)
joins-read n no_join le rest ends = joins-stop n rest ends.join
joins-read zero (join h k l) le rest ends = absurd (omega arith)
joins-read zero (inner_join h k l) le rest ends = absurd (omega arith)
joins-read zero (cross_join h l) le rest ends = absurd (omega arith)
joins-read (suc n) (join {a} {b} {c} {i} {is} {cs} {ds} h k l) le rest ends =
    let fits : length c ≤ n = omega (arith, length-append (a ++ ON ∷ b) c) in
    ap (λ t. read_joins (suc n) (JOIN ∷ t)) (three a (ON ∷ b) c rest)
    ∙ both-added n (JOIN ∷ (a ++ (ON ∷ (b ++ (c ++ rest))))) (i ∷ [], cs) (is, ds) (c ++ rest) rest (is-join _).0
    (join-reads (i ∷ [], cs) (a ++ (ON ∷ (b ++ (c ++ rest)))) (c ++ rest)
    (joined-reads h k (c ++ rest) (joins-no_dot l rest ends.dot) (joins-no (codes "and") refl refl refl l rest ends.and_))).0
    (joins-read n l fits rest ends)
joins-read (suc n) (inner_join {a} {b} {c} {i} {is} {cs} {ds} h k l) le rest ends =
    let fits : length c ≤ n = omega (arith, length-append (a ++ ON ∷ b) c) in
    ap (λ t. read_joins (suc n) (INNER ∷ JOIN ∷ t)) (three a (ON ∷ b) c rest)
    ∙ both-added n (INNER ∷ JOIN ∷ (a ++ (ON ∷ (b ++ (c ++ rest))))) (i ∷ [], cs) (is, ds) (c ++ rest) rest (is-join _).1
    (join-reads (i ∷ [], cs) (a ++ (ON ∷ (b ++ (c ++ rest)))) (c ++ rest)
    (joined-reads h k (c ++ rest) (joins-no_dot l rest ends.dot) (joins-no (codes "and") refl refl refl l rest ends.and_))).1
    (joins-read n l fits rest ends)
joins-read (suc n) (cross_join {a} {b} {i} {is} {ds} h l) le rest ends =
    let fits : length b ≤ n = omega (arith, length-append a b) in
    ap (λ t. read_joins (suc n) (CROSS ∷ JOIN ∷ t)) (append_assoc a b rest)
    ∙ both-added n (CROSS ∷ JOIN ∷ (a ++ (b ++ rest))) (i ∷ [], []) (is, ds) (b ++ rest) rest (is-join _).2
    (cross-reads h (b ++ rest) (joins-no (codes "as") refl refl refl l rest ends.alias_) (joins-no_name l rest ends.name))
    (joins-read n l fits rest ends)

source-reads : {a : List Symbol} {s : Source} → IsSource a s → (rest : List Symbol) → SourceEnds rest → read_source (a ++ rest) ≡ Some (s, rest)
unfolding read_source
source-reads (joined_source {a} {b} {i} {is} {cs} h l) rest ends =
    let fits : length b ≤ length (b ++ rest) = omega (arith, length-append b rest) in
    ap read_source (append_assoc a b rest)
    ∙ rw (
      item-reads h (b ++ rest) (joins-no (codes "as") refl refl refl l rest ends.alias_) (joins-no_name l rest ends.name),
      joins-read (length (b ++ rest)) l
          fits rest ends,
    ) refl

source-some : {a : List Symbol} {s : Source} → IsSource a s → 0 < length a
source-some (joined_source {a} {b} h l) = omega (arith, length-append a b, item-some h)

sources-last : (n : ℕ) (tokens : List Symbol) (s : Source) (rest : List Symbol) → read_source tokens ≡ Some (s, rest) → Never COMMA rest
    → read_sources (suc n) tokens ≡ Some (s, rest)
unfolding read_sources
sources-last n tokens s rest e c = rw (e, c) refl

sources-then : (n : ℕ) (tokens : List Symbol) (s others : Source) (next rest : List Symbol) → read_source tokens ≡ Some (s, COMMA ∷ next)
    → read_sources n next ≡ Some (others, rest) → read_sources (suc n) tokens ≡ Some ((s.0 ++ others.0, s.1 ++ others.1), rest)
unfolding read_sources starts rest_of
sources-then n tokens s others next rest e f = rw (e, f) refl

abbrev items_of : List Source → List FromItem
items_of ss = flat_map (λ s. s.0) ss

abbrev conditions_of : List Source → List Cond
conditions_of ss = flat_map (λ s. s.1) ss

alone-source : (s : Source) → (items_of (s ∷ []), conditions_of (s ∷ [])) ≡ s
alone-source s = ap (λ (is : List FromItem). (is, conditions_of (s ∷ []))) (flat_map-cons (λ (s : Source). s.0) s [] ∙ append-nil s.0)
    ∙ ap (λ (cs : List Cond). (s.0, cs)) (flat_map-cons (λ (s : Source). s.1) s [] ∙ append-nil s.1)

abbrev pair : List FromItem → List Cond → Source
pair is cs = (is, cs)

more-sources : (s : Source) (ss : List Source) → pair (items_of (s ∷ ss)) (conditions_of (s ∷ ss)) ≡ pair (s.0 ++ items_of ss) (s.1 ++ conditions_of ss)
more-sources s ss = ap (λ (is : List FromItem). (is, conditions_of (s ∷ ss))) (flat_map-cons (λ (s : Source). s.0) s ss)
    ∙ ap (λ (cs : List Cond). (s.0 ++ items_of ss, cs)) (flat_map-cons (λ (s : Source). s.1) s ss)

sources-read : (n : ℕ) (a : List Symbol) (ss : List Source) → Commas IsSource a ss → length a ≤ n → (rest : List Symbol) → SourceEnds rest → Never COMMA rest
    → read_sources n (a ++ rest) ≡ Some ((items_of ss, conditions_of ss), rest)
sources-read zero a ss (last h) le rest ends c = absurd (omega (arith, source-some h))
sources-read zero d ss (comma {a} {b} h hs) le rest ends c = absurd (omega (arith, length-append a (COMMA ∷ b)))
sources-read (suc n) a ss (last {x = s} h) le rest ends c = sources-last n (a ++ rest) s rest (source-reads h rest ends) c
    ∙ ap (λ (t : Source). Some (t, rest)) (sym (alone-source s))
sources-read (suc n) d ss (comma {a = a} {b = b} {x = s} {xs = ts} h hs) le rest ends c =
    let fits : length b ≤ n = omega (arith, length-append a (COMMA ∷ b)) in
    ap (read_sources (suc n)) (append_assoc a (COMMA ∷ b) rest)
    ∙ sources-then n (a ++ COMMA ∷ (b ++ rest)) s (items_of ts, conditions_of ts) (b ++ rest) rest
    (source-reads h (COMMA ∷ (b ++ rest)) (comma-ends (b ++ rest))) (sources-read n b ts hs fits rest ends c)
    ∙ ap (λ (t : Source). Some (t, rest)) (sym (more-sources s ts))

-- ---- blocks

pub comma-no_dot : (rest : List Symbol) → NoDot (COMMA ∷ rest)
unfolding starts
comma-no_dot rest = refl

star-no_distinct : (rest : List Symbol) → Never DISTINCT (STAR ∷ rest)
unfolding starts
star-no_distinct rest = refl

output-reads : {a : List Symbol} {star : Bool} {rs : List ColumnRef} → IsOutput a star rs → (rest : List Symbol) → NoDot rest → Never COMMA rest
    → read_output (a ++ rest) ≡ Some ((star, rs), rest)
unfolding read_output starts rest_of
output-reads all_columns rest d c = refl
output-reads (columns {a} {rs} h) rest d c =
    rw (
      commas-start IsRef read_ref NoDot (λ _ _ r rest d. ref-reads r rest d) (λ _ _ r. ref-some r) (λ rest. comma-no_dot rest) STAR
          (λ _ _ r rest. ref-no_mark r (codes "*") rest) a rs h rest,
      list-reads IsRef read_ref NoDot (λ _ _ r rest d. ref-reads r rest d) (λ _ _ r. ref-some r) (λ rest. comma-no_dot rest) a rs h rest d c,
    ) refl

output-no_distinct : {a : List Symbol} {star : Bool} {rs : List ColumnRef} → IsOutput a star rs → (rest : List Symbol) → Never DISTINCT (a ++ rest)
output-no_distinct all_columns rest = star-no_distinct rest
output-no_distinct (columns {a} {rs} h) rest =
    commas-start IsRef read_ref NoDot (λ _ _ r rest d. ref-reads r rest d) (λ _ _ r. ref-some r) (λ rest. comma-no_dot rest) DISTINCT
    (λ _ _ r rest. ref-no_word r (codes "distinct") rest reserved.distinct_word) a rs h rest

distinct-reads : {a : List Symbol} {d : Bool} → IsDistinct a d → (rest : List Symbol) → Never DISTINCT rest
    → (starts DISTINCT (a ++ rest) ≡ d) × (after_distinct (a ++ rest) ≡ rest)
unfolding after_distinct starts rest_of
distinct-reads all_rows rest n = (n, rw n refl)
distinct-reads distinct_rows rest n = (refl, refl)

head-steps : (start tail : List Symbol) (distinct star : Bool) (rs : List ColumnRef) (rest : List Symbol) → starts DISTINCT start ≡ distinct
    → after_distinct start ≡ tail → read_output tail ≡ Some ((star, rs), rest)
    → read_head (SELECT ∷ start) ≡ Some (record { distinct = distinct; star = star; items = rs }, rest)
unfolding read_head starts rest_of
head-steps start tail distinct star rs rest d t o = rw (t, o, d) refl

head-reads : {a : List Symbol} {distinct star : Bool} {rs : List ColumnRef} → IsHead a distinct star rs → (rest : List Symbol) → NoDot rest → Never COMMA rest
    → read_head (a ++ rest) ≡ Some (record { distinct = distinct; star = star; items = rs }, rest)
head-reads {distinct = distinct} {star = star} {rs = rs} (select_output {a = a} {b = b} h o) rest dot c =
    let d = distinct-reads h (b ++ rest) (output-no_distinct o rest) in
    ap (λ t. read_head (SELECT ∷ t)) (append_assoc a b rest)
    ∙ head-steps (a ++ (b ++ rest)) (b ++ rest) distinct star rs rest d.0 d.1 (output-reads o rest dot c)

body-steps : (from : List Symbol) (sources : Source) (next : List Symbol) (cs : List Cond) (rest : List Symbol)
    → read_sources (length from) from ≡ Some (sources, next) → read_where next ≡ Some (cs, rest)
    → read_body (FROM ∷ from) ≡ Some ((sources.0, sources.1 ++ cs), rest)
unfolding read_body starts rest_of
body-steps from sources next cs rest s w = rw (s, w) refl

pub body-reads : {a : List Symbol} {b : Body} → IsBody a b → (rest : List Symbol) → BlockEnds rest → read_body (a ++ rest) ≡ Some (b, rest)
body-reads (from_sources {a = a} {b = b} {ss = ss} {cs = cs} s w) rest ends =
    let fits : length a ≤ length (a ++ (b ++ rest)) = omega (arith, length-append a (b ++ rest)) in
    ap (λ t. read_body (FROM ∷ t)) (append_assoc a b rest)
    ∙ body-steps (a ++ (b ++ rest)) (items_of ss, conditions_of ss) (b ++ rest) cs rest
    (sources-read (length (a ++ (b ++ rest))) a ss s fits (b ++ rest) (where-ends w rest ends.source) (where-no_comma w rest ends.comma))
    (where-reads w rest ends.source.dot ends.source.and_ ends.where_)

pub body-no : {a : List Symbol} {b : Body} → IsBody a b → (rest : List Symbol) → NoDot (a ++ rest) × Never COMMA (a ++ rest)
unfolding starts
body-no (from_sources s w) rest = (refl, refl)

block-steps : (tokens next : List Symbol) (head : Head) (body : Body) (rest : List Symbol) → read_head tokens ≡ Some (head, next)
    → read_body next ≡ Some (body, rest) → read_block tokens ≡ Some (block_of head.distinct head.star head.items body, rest)
unfolding read_block
block-steps tokens next head body rest h k = rw (h, k) refl

pub block-reads : {a : List Symbol} {b : BlockTree} → IsBlock a b → (rest : List Symbol) → BlockEnds rest → read_block (a ++ rest) ≡ Some (b, rest)
block-reads (select_block {a = a} {b = b} {distinct = distinct} {star = star} {rs = rs} {body = body} h k) rest ends =
    let no = body-no k rest in
    ap read_block (append_assoc a b rest)
    ∙ block-steps (a ++ (b ++ rest)) (b ++ rest) (record { distinct = distinct; star = star; items = rs }) body rest (head-reads h (b ++ rest) no.0 no.1)
    (body-reads k rest ends)

block-some : {a : List Symbol} {b : BlockTree} → IsBlock a b → 0 < length a
block-some (select_block {b = body} (select_output {a = a} {b = b} h o) k) = omega (arith, length-append (SELECT ∷ a ++ b) body, length-append (SELECT ∷ a) b)

pub block-no : (s : Symbol) → starts s (SELECT ∷ []) ≡ false → {a : List Symbol} {b : BlockTree} → IsBlock a b → (rest : List Symbol) → starts s (a ++ rest) ≡ false
unfolding starts
block-no s e (select_block (select_output h o) k) rest = e

-- ---- terms and queries

term-some : {a : List Symbol} {t : Tree} → IsTerm a t → 0 < length a
term-some (single b) = block-some b
term-some (nested q) = omega arith

-- what reading goes on with after a tree
unfoldable pub goes_on : ℕ → Tree → List Symbol → Option (Tree × List Symbol)
goes_on n tree rest = cond (starts UNION rest) (read_query n (BeforeUnion tree) (rest_of rest))
    (cond (starts EXCEPT rest) (read_query n (BeforeExcept tree) (rest_of rest)) (Some (tree, rest)))

query-goes_on : (n : ℕ) (front : Front) (tokens : List Symbol) (tree : Tree) (rest : List Symbol) → read_term (read_query n Nothing) tokens ≡ Some (tree, rest)
    → read_query (suc n) front tokens ≡ goes_on n (joined_to front tree) rest
unfolding read_query goes_on
query-goes_on n front tokens tree rest e = rw e refl

union-goes_on : (n : ℕ) (tree : Tree) (rest : List Symbol) → goes_on n tree (UNION ∷ rest) ≡ read_query n (BeforeUnion tree) rest
unfolding goes_on starts rest_of
union-goes_on n tree rest = refl

except-goes_on : (n : ℕ) (tree : Tree) (rest : List Symbol) → goes_on n tree (EXCEPT ∷ rest) ≡ read_query n (BeforeExcept tree) rest
unfolding goes_on starts rest_of
except-goes_on n tree rest = refl

close-goes_on : (n : ℕ) (tree : Tree) (rest : List Symbol) → goes_on n tree (CLOSE ∷ rest) ≡ Some (tree, CLOSE ∷ rest)
unfolding goes_on starts
close-goes_on n tree rest = refl

no_more : (n : ℕ) (tree : Tree) (rest : List Symbol) → Never UNION rest → Never EXCEPT rest → goes_on n tree rest ≡ Some (tree, rest)
unfolding goes_on
no_more n tree rest u e = rw (u, e) refl

term-single : (between : List Symbol → Option (Tree × List Symbol)) (tokens : List Symbol) (b : BlockTree) (rest : List Symbol) → starts OPEN tokens ≡ false
    → read_block tokens ≡ Some (b, rest) → read_term between tokens ≡ Some (Block b, rest)
unfolding read_term read_block_term
term-single between tokens b rest o e = rw (o, e) refl

select-no_open : starts OPEN (SELECT ∷ []) ≡ false
unfolding starts
select-no_open = refl

term-nested : (between : List Symbol → Option (Tree × List Symbol)) (a : List Symbol) (t : Tree) (rest : List Symbol)
    → between (a ++ CLOSE ∷ rest) ≡ Some (t, CLOSE ∷ rest) → read_term between ((OPEN ∷ a ++ CLOSE ∷ []) ++ rest) ≡ Some (t, rest)
unfolding read_term starts rest_of
term-nested between a t rest e = ap (λ u. read_term between (OPEN ∷ u)) (append_assoc a (CLOSE ∷ []) rest) ∙ closed-reads (between (a ++ CLOSE ∷ rest)) t rest e

pub record Goes (n : ℕ) (a : List Symbol) (t : Tree) (rest : List Symbol) : Type 0 where
  pub left : ℕ
  pub enough : n ≤ left + length a
  pub reads : read_query n Nothing (a ++ rest) ≡ goes_on left t rest

-- a query, what joins it to a term, and the term
joined-goes : (n : ℕ) (joint : Symbol) (front : Front) (a b : List Symbol) (t u : Tree) (rest : List Symbol) → length (a ++ joint ∷ b) ≤ n
    → (g : Goes n a t (joint ∷ (b ++ rest))) → goes_on g.left t (joint ∷ (b ++ rest)) ≡ read_query g.left front (b ++ rest)
    → read_term (read_query (g.left - 1) Nothing) (b ++ rest) ≡ Some (u, rest) → Goes n (a ++ joint ∷ b) (joined_to front u) rest
joined-goes n joint front a b t u rest le g goes reads =
    let sum = length-append a (joint ∷ b) in
    let enough = g.enough in
    let k : g.left ≡ suc (g.left - 1) = omega arith in
    record {
      left = g.left - 1;
      enough = omega arith;
      reads = ap (read_query n Nothing) (append_assoc a (joint ∷ b) rest) ∙ g.reads ∙ goes
          ∙ ap (λ m. read_query m front (b ++ rest)) k
          ∙ query-goes_on (g.left - 1) front (b ++ rest) u rest reads;
    }

mutual
  term-reads : (n : ℕ) {a : List Symbol} {t : Tree} → IsTerm a t → length a ≤ suc n → (rest : List Symbol) → BlockEnds rest
      → read_term (read_query n Nothing) (a ++ rest) ≡ Some (t, rest)
  term-reads n (single {a} {b} h) le rest ends = term-single (read_query n Nothing) (a ++ rest) b rest (block-no OPEN select-no_open h rest)
      (block-reads h rest ends)
  term-reads n (nested {a} {t} q) le rest ends =
      let sum = length-append a (CLOSE ∷ []) in
      let fits : length a ≤ n = omega arith in
      let g = query-goes n q fits (CLOSE ∷ rest) (close-ends rest) in
      term-nested (read_query n Nothing) a t rest (g.reads ∙ close-goes_on g.left t rest)

  query-goes : (n : ℕ) {a : List Symbol} {t : Tree} → IsQuery a t → length a ≤ n → (rest : List Symbol) → BlockEnds rest → Goes n a t rest
  query-goes zero (term h) le rest ends = absurd (omega (arith, term-some h))
  query-goes (suc n) (term {a} {t} h) le rest ends = record {
    left = n;
    enough = omega (arith, term-some h);
    reads = query-goes_on n Nothing (a ++ rest) t rest (term-reads n h le rest ends);
  }
  query-goes n (union {a} {b} {t} {u} q h) le rest ends =
      let sum = length-append a (UNION ∷ b) in
      let fits : length a ≤ n = omega arith in
      let g = query-goes n q fits (UNION ∷ (b ++ rest)) (union-ends (b ++ rest)) in
      let enough = g.enough in
      let room : length b ≤ suc (g.left - 1) = omega arith in
      joined-goes n UNION (BeforeUnion t) a b t u rest le g (union-goes_on g.left t (b ++ rest)) (term-reads (g.left - 1) h room rest ends)
  query-goes n (except {a} {b} {t} {u} q h) le rest ends =
      let sum = length-append a (EXCEPT ∷ b) in
      let fits : length a ≤ n = omega arith in
      let g = query-goes n q fits (EXCEPT ∷ (b ++ rest)) (except-ends (b ++ rest)) in
      let enough = g.enough in
      let room : length b ≤ suc (g.left - 1) = omega arith in
      joined-goes n EXCEPT (BeforeExcept t) a b t u rest le g (except-goes_on g.left t (b ++ rest)) (term-reads (g.left - 1) h room rest ends)

pub query-reads : {a : List Symbol} {t : Tree} → IsQuery a t → (rest : List Symbol) → BlockEnds rest → Never UNION rest → Never EXCEPT rest
    → read_whole_query (a ++ rest) ≡ Some (t, rest)
query-reads {a} {t} q rest ends u e =
    let fits : length a ≤ length (a ++ rest) = omega (arith, length-append a rest) in
    let g = query-goes (length (a ++ rest)) q fits rest ends in
    g.reads ∙ no_more g.left t rest u e

term-no : (w : List ℕ) → starts (word w) (SELECT ∷ []) ≡ false → {a : List Symbol} {t : Tree} → IsTerm a t → (rest : List Symbol) → Never (word w) (a ++ rest)
unfolding starts
term-no w e (single b) rest = block-no (word w) e b rest
term-no w e (nested q) rest = refl

pub query-no : (w : List ℕ) → starts (word w) (SELECT ∷ []) ≡ false → {a : List Symbol} {t : Tree} → IsQuery a t → (rest : List Symbol)
    → Never (word w) (a ++ rest)
query-no w e (term h) rest = term-no w e h rest
query-no w e (union {a} {b} q h) rest = rw (append_assoc a (UNION ∷ b) rest) (query-no w e q (UNION ∷ (b ++ rest)))
query-no w e (except {a} {b} q h) rest = rw (append_assoc a (EXCEPT ∷ b) rest) (query-no w e q (EXCEPT ∷ (b ++ rest)))
