-- Blocks, queries and statements that are read are spelled so.
use Rattle.std.proofs.Common.{◌≡◌, ℕ, zero, suc, Bool, true, false, cond, List, [], ◌∷◌, ◌++◌, length, Option, Some, None, refl, sym, ap, subst, inl, inr, ◌∙◌, append_assoc}
use Rattle.std.proofs.lemmas.List.{append-nil}
use Rattle.sql_text.specs.declared.tree.ColumnRef.{ColumnRef}
use Rattle.sql_text.specs.declared.tree.Cond.{Cond}
use Rattle.sql_text.specs.declared.tree.FromItem.{FromItem}
use Rattle.sql_text.specs.declared.tree.BlockTree.{BlockTree}
use Rattle.sql_text.specs.Trees.{Tree, Block, Union, Except}
use Rattle.sql_text.specs.Symbols.{Symbol}
use Rattle.sql_text.specs.Grammar.{Commas, last, comma, IsRef, IsConditions, IsWhere, no_where, where_, IsItem, alone, alias, as_alias, IsJoins, no_join, join, inner_join, cross_join, Source, IsSource, joined_source, IsDistinct, all_rows, distinct_rows, IsOutput, all_columns, columns, IsHead, select_output, Body, IsBody, from_sources, IsBlock, select_block, IsTerm, single, nested, IsQuery, term, union, except}
use Rattle.sql_text.specs.Words.{AS, CROSS, DISTINCT, EXCEPT, FROM, INNER, JOIN, ON, SELECT, UNION, WHERE, OPEN, CLOSE, COMMA, STAR}
use Rattle.std.specs.List.{flat_map}
use Rattle.std.proofs.lemmas.List.Concat.{flat_map-cons}
use Rattle.sql_parser.specs.declared.blocks.Head.{Head}
use Rattle.sql_parser.specs.declared.queries.Front.{Front}
use Rattle.sql_parser.specs.declared.queries.Front.TheVariants.{Nothing, BeforeUnion, BeforeExcept}
use Rattle.sql_parser.specs.Fronts.{joined_to}
use Rattle.token_reader.specs.Reading.{◌>>=◌, expect, starts, rest_of, starts_id, read_id}
use Rattle.sql_parser.specs.Reading.{read_list, then_close, read_ref, read_conditions, read_where, read_alias, read_item, read_joined, read_crossed, starts_join, read_join, read_joins, read_source, read_sources, read_output, after_distinct, read_head, read_body, read_block, read_block_term, read_term, read_query, read_whole_query}
use Rattle.sql_parser.proofs.ReadIsSpelled.{Took, then_parts, read_as, some_is, none_is, bind-inv, pick-inv, took_as, starts-inv, expect-inv, closed-inv, id-spelled, commas-spelled, ref-spelled, conditions-spelled}

pub where-spelled : (tokens : List Symbol) (cs : List Cond) (rest : List Symbol) → read_where tokens ≡ Some (cs, rest) → Took IsWhere tokens cs rest
unfolding read_where
where-spelled tokens cs rest e =
    elim (pick-inv (starts WHERE tokens) (read_conditions (length (rest_of tokens)) (rest_of tokens)) (Some ([], tokens)) (Some (cs, rest)) e) [
      | inl w ↦
          let t = conditions-spelled (length (rest_of tokens)) (rest_of tokens) cs rest w.1 in
          record { front = WHERE ∷ t.front; parts = starts-inv WHERE tokens w.0 ∙ ap (λ r. WHERE ∷ r) t.parts; spelled = where_ t.spelled }
      | inr w ↦ took_as (record { front = []; parts = refl; spelled = no_where }) w.1
    ]

-- ---- FROM items and joins

abbrev item_of : List ℕ → List ℕ → FromItem
item_of table alias_ = record { table = table; alias = alias_ }

item-spelled : (tokens : List Symbol) (i : FromItem) (rest : List Symbol) → read_item tokens ≡ Some (i, rest) → Took IsItem tokens i rest
unfolding read_item read_alias
item-spelled tokens i rest e =
    let a = bind-inv (read_id tokens) _ (i, rest) e in
    let t = id-spelled tokens a.0.0 a.0.1 a.1 in
    let b = bind-inv (read_alias a.0.0 a.0.1) _ (i, rest) a.2 in
    elim (pick-inv (starts AS a.0.1) (read_id (rest_of a.0.1)) (cond (starts_id a.0.1) (read_id a.0.1) (Some (a.0.0, a.0.1))) (Some b.0) b.1) [
      | inl k ↦
          let u = id-spelled (rest_of a.0.1) b.0.0 b.0.1 k.1 in
          took_as (record {
            front = t.front ++ AS ∷ u.front;
            parts = then_parts t.front (AS ∷ u.front) b.0.1 t.parts (starts-inv AS a.0.1 k.0 ∙ ap (λ r. AS ∷ r) u.parts);
            spelled = as_alias t.spelled u.spelled;
          }) b.2
      | inr k ↦ elim (pick-inv (starts_id a.0.1) (read_id a.0.1) (Some (a.0.0, a.0.1)) (Some b.0) k.1) [
        | inl n ↦
            let u = id-spelled a.0.1 b.0.0 b.0.1 n.1 in
            took_as (record { front = t.front ++ u.front; parts = then_parts t.front u.front b.0.1 t.parts u.parts; spelled = alias t.spelled u.spelled }) b.2
        | inr n ↦
            let same_alias = some_is (a.0.0, a.0.1) b.0 n.1 in
            took_as (record { front = t.front; parts = t.parts; spelled = alone t.spelled })
            (ap (λ (p : List ℕ × List Symbol). read_as (item_of a.0.0 p.0) p.1) same_alias ∙ b.2)
      ]
    ]

-- one join, as a source of one item
pub data IsJoin : List Symbol → Source → Type 0 where
  joined : {a b : List Symbol} {i : FromItem} {cs : List Cond} → IsItem a i → IsConditions b cs → IsJoin (JOIN ∷ a ++ ON ∷ b) (i ∷ [], cs)
  inner_joined : {a b : List Symbol} {i : FromItem} {cs : List Cond} → IsItem a i → IsConditions b cs → IsJoin (INNER ∷ JOIN ∷ a ++ ON ∷ b) (i ∷ [], cs)
  crossed : {a : List Symbol} {i : FromItem} → IsItem a i → IsJoin (CROSS ∷ JOIN ∷ a) (i ∷ [], [])

-- after the words of a join
data IsJoined : List Symbol → Source → Type 0 where
  item_on : {a b : List Symbol} {i : FromItem} {cs : List Cond} → IsItem a i → IsConditions b cs → IsJoined (a ++ ON ∷ b) (i ∷ [], cs)

joined-spelled : (tokens : List Symbol) (s : Source) (rest : List Symbol) → read_joined tokens ≡ Some (s, rest) → Took IsJoined tokens s rest
unfolding read_joined
joined-spelled tokens s rest e =
    let a = bind-inv (read_item tokens) _ (s, rest) e in
    let i = item-spelled tokens a.0.0 a.0.1 a.1 in
    let o = bind-inv (expect ON a.0.1) _ (s, rest) a.2 in
    let b = bind-inv (read_conditions (length o.0) o.0) _ (s, rest) o.2 in
    let c = conditions-spelled (length o.0) o.0 b.0.0 b.0.1 b.1 in
    took_as (record {
      front = i.front ++ ON ∷ c.front;
      parts = then_parts i.front (ON ∷ c.front) b.0.1 i.parts
          (expect-inv ON a.0.1 o.0 o.1 ∙ ap (λ r. ON ∷ r) c.parts);
      spelled = item_on i.spelled c.spelled;
    }) b.2

with_join : {a : List Symbol} {s : Source} → IsJoined a s → IsJoin (JOIN ∷ a) s
with_join (item_on i c) = joined i c

with_inner : {a : List Symbol} {s : Source} → IsJoined a s → IsJoin (INNER ∷ JOIN ∷ a) s
with_inner (item_on i c) = inner_joined i c

starts_join-inv : (tokens : List Symbol) → starts_join tokens ≡ true → starts JOIN tokens ≡ false → starts INNER tokens ≡ false → starts CROSS tokens ≡ true
unfolding starts_join
starts_join-inv tokens e j i = sym (rw (j, i) refl) ∙ e

join-spelled : (tokens : List Symbol) (s : Source) (rest : List Symbol) → starts_join tokens ≡ true → read_join tokens ≡ Some (s, rest)
    → Took IsJoin tokens s rest
unfolding read_join read_crossed
join-spelled tokens s rest some e =
    elim (pick-inv (starts JOIN tokens) (read_joined (rest_of tokens))
    (cond (starts INNER tokens) (expect JOIN (rest_of tokens) >>= read_joined) (read_crossed (rest_of tokens))) (Some (s, rest)) e) [
      | inl j ↦
          let t = joined-spelled (rest_of tokens) s rest j.1 in
          record { front = JOIN ∷ t.front; parts = starts-inv JOIN tokens j.0 ∙ ap (λ r. JOIN ∷ r) t.parts; spelled = with_join t.spelled }
      | inr j ↦ elim (pick-inv (starts INNER tokens) (expect JOIN (rest_of tokens) >>= read_joined) (read_crossed (rest_of tokens)) (Some (s, rest)) j.1) [
        | inl i ↦
            let a = bind-inv (expect JOIN (rest_of tokens)) read_joined (s, rest) i.1 in
            let t = joined-spelled a.0 s rest a.2 in
            record {
              front = INNER ∷ JOIN ∷ t.front;
              parts = starts-inv INNER tokens i.0
                  ∙ ap (λ r. INNER ∷ r) (expect-inv JOIN (rest_of tokens) a.0 a.1 ∙ ap (λ r. JOIN ∷ r) t.parts);
              spelled = with_inner t.spelled;
            }
        | inr i ↦
            let a = bind-inv (expect JOIN (rest_of tokens)) _ (s, rest) i.1 in
            let b = bind-inv (read_item a.0) _ (s, rest) a.2 in
            let t = item-spelled a.0 b.0.0 b.0.1 b.1 in
            took_as (record {
              front = CROSS ∷ JOIN ∷ t.front;
              parts = starts-inv CROSS tokens (starts_join-inv tokens some j.0 i.0)
                  ∙ ap (λ r. CROSS ∷ r) (expect-inv JOIN (rest_of tokens) a.0 a.1 ∙ ap (λ r. JOIN ∷ r) t.parts);
              spelled = crossed t.spelled;
            }) b.2
      ]
    ]

abbrev JoinsOf : List Symbol → Source → Type 0
JoinsOf a s = IsJoins a s.0 s.1

more-joins : {a b : List Symbol} {s t : Source} → IsJoin a s → JoinsOf b t → JoinsOf (a ++ b) (s.0 ++ t.0, s.1 ++ t.1)
more-joins (joined i h) j = join i h j
more-joins (inner_joined i h) j = inner_join i h j
more-joins (crossed i) j = cross_join i j

joins-spelled : (n : ℕ) (tokens : List Symbol) (s : Source) (rest : List Symbol) → read_joins n tokens ≡ Some (s, rest) → Took JoinsOf tokens s rest
unfolding read_joins
joins-spelled zero tokens s rest e =
    elim (pick-inv (starts_join tokens) None (Some (([], []), tokens)) (Some (s, rest)) e) [
      | inl k ↦ absurd (none_is (s, rest) k.1)
      | inr k ↦ took_as (record { front = []; parts = refl; spelled = no_join }) k.1
    ]
joins-spelled (suc n) tokens s rest e =
    elim (pick-inv (starts_join tokens) (read_join tokens >>= λ p. read_joins n p.1 >>= λ q. Some ((p.0.0 ++ q.0.0, p.0.1 ++ q.0.1), q.1))
    (Some (([], []), tokens)) (Some (s, rest)) e) [
      | inl k ↦
          let a = bind-inv (read_join tokens) _ (s, rest) k.1 in
          let b = bind-inv (read_joins n a.0.1) _ (s, rest) a.2 in
          let t = join-spelled tokens a.0.0 a.0.1 k.0 a.1 in
          let u = joins-spelled n a.0.1 b.0.0 b.0.1 b.1 in
          took_as (record { front = t.front ++ u.front; parts = then_parts t.front u.front b.0.1 t.parts u.parts; spelled = more-joins t.spelled u.spelled })
          b.2
      | inr k ↦ took_as (record { front = []; parts = refl; spelled = no_join }) k.1
    ]

source-spelled : (tokens : List Symbol) (s : Source) (rest : List Symbol) → read_source tokens ≡ Some (s, rest) → Took IsSource tokens s rest
unfolding read_source
source-spelled tokens s rest e =
    let a = bind-inv (read_item tokens) _ (s, rest) e in
    let i = item-spelled tokens a.0.0 a.0.1 a.1 in
    let b = bind-inv (read_joins (length a.0.1) a.0.1) _ (s, rest) a.2 in
    let j = joins-spelled (length a.0.1) a.0.1 b.0.0 b.0.1 b.1 in
    took_as (record { front = i.front ++ j.front; parts = then_parts i.front j.front b.0.1 i.parts j.parts; spelled = joined_source i.spelled j.spelled }) b.2

-- sources with all their items and conditions
pub record SourcesOf (a : List Symbol) (s : Source) : Type 0 where
  pub sources : List Source
  pub spelled : Commas IsSource a sources
  pub items : s.0 ≡ flat_map (λ t. t.0) sources
  pub conditions : s.1 ≡ flat_map (λ t. t.1) sources

one-source : {a : List Symbol} {s : Source} → IsSource a s → SourcesOf a s
one-source {a} {s} h = record {
  sources = s ∷ [];
  spelled = last h;
  items = sym (flat_map-cons (λ (t : Source). t.0) s [] ∙ append-nil s.0);
  conditions = sym (flat_map-cons (λ (t : Source). t.1) s [] ∙ append-nil s.1);
}

more-sources : {a b : List Symbol} {s t : Source} → IsSource a s → SourcesOf b t → SourcesOf (a ++ COMMA ∷ b) (s.0 ++ t.0, s.1 ++ t.1)
more-sources {a} {b} {s} {t} h k = record {
  sources = s ∷ k.sources;
  spelled = comma h k.spelled;
  items = ap (λ is. s.0 ++ is) k.items ∙ sym (flat_map-cons (λ (t : Source). t.0) s k.sources);
  conditions = ap (λ cs. s.1 ++ cs) k.conditions ∙ sym (flat_map-cons (λ (t : Source). t.1) s k.sources);
}

sources-spelled : (n : ℕ) (tokens : List Symbol) (s : Source) (rest : List Symbol) → read_sources n tokens ≡ Some (s, rest) → Took SourcesOf tokens s rest
unfolding read_sources
sources-spelled zero tokens s rest e = absurd (none_is (s, rest) e)
sources-spelled (suc n) tokens s rest e =
    let a = bind-inv (read_source tokens) _ (s, rest) e in
    let t = source-spelled tokens a.0.0 a.0.1 a.1 in
    elim (pick-inv (starts COMMA a.0.1) (read_sources n (rest_of a.0.1) >>= λ q. Some ((a.0.0.0 ++ q.0.0, a.0.0.1 ++ q.0.1), q.1)) (Some a.0) (Some (s, rest))
    a.2) [
      | inl k ↦
          let b = bind-inv (read_sources n (rest_of a.0.1)) _ (s, rest) k.1 in
          let u = sources-spelled n (rest_of a.0.1) b.0.0 b.0.1 b.1 in
          took_as (record {
            front = t.front ++ COMMA ∷ u.front;
            parts = then_parts t.front (COMMA ∷ u.front) b.0.1 t.parts (starts-inv COMMA a.0.1 k.0 ∙ ap (λ r. COMMA ∷ r) u.parts);
            spelled = more-sources t.spelled u.spelled;
          }) b.2
      | inr k ↦ took_as (record { front = t.front; parts = t.parts; spelled = one-source t.spelled }) k.1
    ]

-- ---- blocks

abbrev OutputOf : List Symbol → Bool × List ColumnRef → Type 0
OutputOf a o = IsOutput a o.0 o.1

output-spelled : (tokens : List Symbol) (o : Bool × List ColumnRef) (rest : List Symbol) → read_output tokens ≡ Some (o, rest) → Took OutputOf tokens o rest
unfolding read_output
output-spelled tokens o rest e =
    elim (pick-inv (starts STAR tokens) (Some ((true, []), rest_of tokens)) (read_list read_ref tokens >>= λ p. Some ((false, p.0), p.1)) (Some (o, rest)) e) [
      | inl k ↦ took_as (record { front = STAR ∷ []; parts = starts-inv STAR tokens k.0; spelled = all_columns }) k.1
      | inr k ↦
          let a = bind-inv (read_list read_ref tokens) _ (o, rest) k.1 in
          let t = commas-spelled IsRef read_ref ref-spelled (length tokens) tokens a.0.0 a.0.1 a.1 in
          took_as (record { front = t.front; parts = t.parts; spelled = columns t.spelled }) a.2
    ]

distinct-spelled : (tokens : List Symbol) → Took IsDistinct tokens (starts DISTINCT tokens) (after_distinct tokens)
unfolding after_distinct
distinct-spelled tokens =
    let go : (b : Bool) → starts DISTINCT tokens ≡ b → Took IsDistinct tokens b (cond b (rest_of tokens) tokens) = λ b. elim b as
    (λ b. starts DISTINCT tokens ≡ b → Took IsDistinct tokens b (cond b (rest_of tokens) tokens)) [
      | true ↦ λ t. record { front = DISTINCT ∷ []; parts = starts-inv DISTINCT tokens t; spelled = distinct_rows }
      | false ↦ λ t. record { front = []; parts = refl; spelled = all_rows }
    ] in
    go (starts DISTINCT tokens) refl

abbrev HeadOf : List Symbol → Head → Type 0
HeadOf a h = IsHead a h.distinct h.star h.items

head-spelled : (tokens : List Symbol) (h : Head) (rest : List Symbol) → read_head tokens ≡ Some (h, rest) → Took HeadOf tokens h rest
unfolding read_head
head-spelled tokens h rest e =
    let a = bind-inv (expect SELECT tokens) _ (h, rest) e in
    let d = distinct-spelled a.0 in
    let o = bind-inv (read_output (after_distinct a.0)) _ (h, rest) a.2 in
    let u = output-spelled (after_distinct a.0) o.0.0 o.0.1 o.1 in
    took_as (record {
      front = SELECT ∷ d.front ++ u.front;
      parts = then_parts (SELECT ∷ d.front) u.front o.0.1 (expect-inv SELECT tokens a.0 a.1 ∙ ap (λ r. SELECT ∷ r) d.parts) u.parts;
      spelled = select_output d.spelled u.spelled;
    }) o.2

body-made : {a b : List Symbol} {s : Source} {cs : List Cond} → SourcesOf a s → IsWhere b cs → IsBody (FROM ∷ a ++ b) (s.0, s.1 ++ cs)
body-made {a} {b} {s} {cs} k w =
    subst (λ (t : Source). IsBody (FROM ∷ a ++ b) (t.0, t.1 ++ cs))
    (ap (λ (is : List FromItem). (is, flat_map (λ (t : Source). t.1) k.sources)) (sym k.items) ∙ ap (λ (es : List Cond). (s.0, es)) (sym k.conditions))
    (from_sources k.spelled w)

pub body-spelled : (tokens : List Symbol) (b : Body) (rest : List Symbol) → read_body tokens ≡ Some (b, rest) → Took IsBody tokens b rest
unfolding read_body
body-spelled tokens b rest e =
    let f = bind-inv (expect FROM tokens) _ (b, rest) e in
    let s = bind-inv (read_sources (length f.0) f.0) _ (b, rest) f.2 in
    let t = sources-spelled (length f.0) f.0 s.0.0 s.0.1 s.1 in
    let w = bind-inv (read_where s.0.1) _ (b, rest) s.2 in
    let u = where-spelled s.0.1 w.0.0 w.0.1 w.1 in
    took_as (record {
      front = FROM ∷ t.front ++ u.front;
      parts = then_parts (FROM ∷ t.front) u.front w.0.1 (expect-inv FROM tokens f.0 f.1 ∙ ap (λ r. FROM ∷ r) t.parts) u.parts;
      spelled = body-made t.spelled u.spelled;
    }) w.2

pub block-spelled : (tokens : List Symbol) (b : BlockTree) (rest : List Symbol) → read_block tokens ≡ Some (b, rest) → Took IsBlock tokens b rest
unfolding read_block
block-spelled tokens b rest e =
    let h = bind-inv (read_head tokens) _ (b, rest) e in
    let t = head-spelled tokens h.0.0 h.0.1 h.1 in
    let k = bind-inv (read_body h.0.1) _ (b, rest) h.2 in
    let u = body-spelled h.0.1 k.0.0 k.0.1 k.1 in
    took_as (record { front = t.front ++ u.front; parts = then_parts t.front u.front k.0.1 t.parts u.parts; spelled = select_block t.spelled u.spelled }) k.2

-- ---- queries

term-spelled : (between : List Symbol → Option (Tree × List Symbol))
    → ((tokens : List Symbol) (t : Tree) (rest : List Symbol) → between tokens ≡ Some (t, rest) → Took IsQuery tokens t rest)
    → (tokens : List Symbol) (t : Tree) (rest : List Symbol) → read_term between tokens ≡ Some (t, rest) → Took IsTerm tokens t rest
unfolding read_term read_block_term
term-spelled between reads tokens t rest e =
    elim (pick-inv (starts OPEN tokens) (then_close (between (rest_of tokens))) (read_block tokens >>= λ p. Some (Block p.0, p.1)) (Some (t, rest)) e) [
      | inl o ↦
          let c = closed-inv (between (rest_of tokens)) t rest o.1 in
          let u = reads (rest_of tokens) t (CLOSE ∷ rest) c in
          record {
            front = OPEN ∷ u.front ++ CLOSE ∷ [];
            parts = starts-inv OPEN tokens o.0 ∙ ap (λ r. OPEN ∷ r) (u.parts ∙ sym (append_assoc u.front (CLOSE ∷ []) rest));
            spelled = nested u.spelled;
          }
      | inr o ↦
          let a = bind-inv (read_block tokens) _ (t, rest) o.1 in
          let u = block-spelled tokens a.0.0 a.0.1 a.1 in
          took_as (record { front = u.front; parts = u.parts; spelled = single u.spelled }) a.2
    ]

-- what stands before a term, and how it is spelled
data IsFront : List Symbol → Front → Type 0 where
  no_front : IsFront [] Nothing
  before_union : {a : List Symbol} {t : Tree} → IsQuery a t → IsFront (a ++ UNION ∷ []) (BeforeUnion t)
  before_except : {a : List Symbol} {t : Tree} → IsQuery a t → IsFront (a ++ EXCEPT ∷ []) (BeforeExcept t)

front-then : {a b : List Symbol} {front : Front} {t : Tree} → IsFront a front → IsTerm b t → IsQuery (a ++ b) (joined_to front t)
front-then no_front h = term h
front-then {b = b} {t = u} (before_union {a} {t} q) h = subst (λ c. IsQuery c (Union t u)) (sym (append_assoc a (UNION ∷ []) b)) (union q h)
front-then {b = b} {t = u} (before_except {a} {t} q) h = subst (λ c. IsQuery c (Except t u)) (sym (append_assoc a (EXCEPT ∷ []) b)) (except q h)

abbrev After : List Symbol → List Symbol → Tree → Type 0
After before a t = IsQuery (before ++ a) t

joins-on : {tokens next rest : List Symbol} {t : Tree} (s : Symbol) (before a b : List Symbol) → next ≡ s ∷ rest_of next → tokens ≡ a ++ next
    → rest_of next ≡ b ++ rest → IsQuery (((before ++ a) ++ s ∷ []) ++ b) t → Took (After before) tokens t rest
joins-on {tokens} {next} {rest} {t} s before a b k e f q =
    record {
      front = a ++ s ∷ b;
      parts = then_parts a (s ∷ b) rest e (k ∙ ap (λ r. s ∷ r) f);
      spelled = subst (λ c. IsQuery c t) (append_assoc (before ++ a) (s ∷ []) b ∙ append_assoc before a (s ∷ b)) q;
    }

terms-spelled : (n : ℕ) (before : List Symbol) (front : Front) → IsFront before front → (tokens : List Symbol) (t : Tree) (rest : List Symbol)
    → read_query n front tokens ≡ Some (t, rest) → Took (After before) tokens t rest
unfolding read_query
terms-spelled zero before front f tokens t rest e = absurd (none_is (t, rest) e)
terms-spelled (suc n) before front f tokens t rest e =
    let a = bind-inv (read_term (read_query n Nothing) tokens) _ (t, rest) e in
    let whole = terms-spelled n [] Nothing no_front in
    let u = term-spelled (read_query n Nothing) whole tokens a.0.0 a.0.1 a.1 in
    let q = front-then f u.spelled in
    elim (pick-inv (starts UNION a.0.1) (read_query n (BeforeUnion (joined_to front a.0.0)) (rest_of a.0.1))
    (cond (starts EXCEPT a.0.1) (read_query n (BeforeExcept (joined_to front a.0.0)) (rest_of a.0.1)) (Some (joined_to front a.0.0, a.0.1)))
    (Some (t, rest)) a.2) [
      | inl k ↦
          let v = terms-spelled n ((before ++ u.front) ++ UNION ∷ []) (BeforeUnion (joined_to front a.0.0)) (before_union q) (rest_of a.0.1) t rest k.1 in
          joins-on UNION before u.front v.front (starts-inv UNION a.0.1 k.0) u.parts v.parts v.spelled
      | inr k ↦ elim (pick-inv (starts EXCEPT a.0.1) (read_query n (BeforeExcept (joined_to front a.0.0)) (rest_of a.0.1)) (Some (joined_to front a.0.0, a.0.1))
          (Some (t, rest)) k.1) [
            | inl x ↦
                let v = terms-spelled n ((before ++ u.front) ++ EXCEPT ∷ []) (BeforeExcept (joined_to front a.0.0)) (before_except q)
                (rest_of a.0.1) t rest x.1 in
                joins-on EXCEPT before u.front v.front (starts-inv EXCEPT a.0.1 x.0) u.parts v.parts v.spelled
            | inr x ↦ took_as (record { front = u.front; parts = u.parts; spelled = q }) x.1
          ]
    ]

pub query-spelled : (tokens : List Symbol) (t : Tree) (rest : List Symbol) → read_whole_query tokens ≡ Some (t, rest) → Took IsQuery tokens t rest
query-spelled tokens t rest e = let u = terms-spelled (length tokens) [] Nothing no_front tokens t rest e in
    record { front = u.front; parts = u.parts; spelled = u.spelled }
