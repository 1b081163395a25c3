-- Statements that are read are spelled so.
use Rattle.std.proofs.Common.{◌≡◌, ℕ, Bool, true, false, List, [], ◌∷◌, ◌++◌, length, Some, refl, sym, ap, inl, inr, ◌∙◌, append_assoc}
use Rattle.sql_parser.specs.declared.statements.Opening.{Opening}
use Rattle.sql_parser.specs.declared.statements.Opening.TheVariants as opening
use Rattle.beas_core.specs.declared.schema.Column.{Column}
use Rattle.sql_text.specs.declared.tree.Statement.{Statement}
use Rattle.sql_text.specs.declared.tree.Statement.TheVariants.{Specialise}
use Rattle.sql_text.specs.Trees.{Tree, Block}
use Rattle.sql_text.specs.Symbols.{Symbol, number, quoted}
use Rattle.sql_text.specs.Grammar.{Commas, IsId, IsMaybeIds, IsColumn, IsTuple, Spells, create_table, create_access, drop_access, load, insert, delete, discover_group, discover_pairs, over_query, IsOverQuery, select, explain, scan_ok, specialise, wants_distinct}
use Rattle.sql_text.specs.Words.{ACCESS, CREATE, DELETE, DISCOVER, DROP, EXPLAIN, FETCH, FROM, INSERT, INTO, LIMIT, LOAD, OK, ON, SCAN, SPECIALISE, TABLE, VALUES, OPEN, CLOSE}
use Rattle.token_reader.specs.Reading.{expect, starts, rest_of, read_id, read_number, read_quoted, has_group, begins_with, after_all}
use Rattle.sql_parser.specs.Reading.{read_list, read_maybe_ids, read_column, read_tuple, read_where, read_whole_query, read_columns, read_key, read_fetched, read_create_table, read_create_access, read_drop_access, read_load, read_insert, read_delete, read_pairs, read_group, read_discover, read_explain, read_scan_ok, read_specialise, read_select, read_block, read_block_term, read_grouped, read_selection, words_of, read_opened, openings, read_first, read_statement}
use Rattle.sql_parser.proofs.ReadIsSpelled.{Took, then_parts, bind-inv, pick-inv, some_is, took_as, starts-inv, begins-inv, expect-inv, closed-inv, id-spelled, number-inv, quoted-inv, commas-spelled, ids-spelled, maybe_ids-spelled, column-spelled, tuple-spelled}
use Rattle.sql_parser.proofs.QueryIsSpelled.{where-spelled, block-spelled, query-spelled}
use Rattle.sql_parser.proofs.GroupedIsSpelled.{grouped-spelled}

-- what stands between parentheses at the front of the tokens
record InParentheses {X : Type 0} (Spelled : List Symbol → X → Type 0) (tokens : List Symbol) (x : X) (rest : List Symbol) : Type 0 where
  inner : List Symbol
  parts : tokens ≡ (OPEN ∷ inner) ++ (CLOSE ∷ rest)
  spelled : Spelled inner x

in_parentheses : {X : Type 0} {Spelled : List Symbol → X → Type 0} (tokens inside : List Symbol) (x : X) (rest : List Symbol) → tokens ≡ OPEN ∷ inside
    → Took Spelled inside x (CLOSE ∷ rest) → InParentheses Spelled tokens x rest
in_parentheses tokens inside x rest e t = record { inner = t.front; parts = e ∙ ap (λ r. OPEN ∷ r) t.parts; spelled = t.spelled }

columns-spelled : (tokens : List Symbol) (cs : List Column) (rest : List Symbol) → read_columns tokens ≡ Some (cs, rest)
    → InParentheses (Commas IsColumn) tokens cs rest
unfolding read_columns
columns-spelled tokens cs rest e =
    let a = bind-inv (expect OPEN tokens) _ (cs, rest) e in
    let c = closed-inv (read_list read_column a.0) cs rest a.2 in
    in_parentheses tokens a.0 cs rest (expect-inv OPEN tokens a.0 a.1) (commas-spelled IsColumn read_column column-spelled (length a.0) a.0 cs (CLOSE ∷ rest) c)

key-spelled : (tokens : List Symbol) (ns : List (List ℕ)) (rest : List Symbol) → read_key tokens ≡ Some (ns, rest) → InParentheses IsMaybeIds tokens ns rest
unfolding read_key
key-spelled tokens ns rest e =
    let a = bind-inv (expect OPEN tokens) _ (ns, rest) e in
    let c = closed-inv (read_maybe_ids a.0) ns rest a.2 in
    in_parentheses tokens a.0 ns rest (expect-inv OPEN tokens a.0 a.1) (maybe_ids-spelled a.0 ns (CLOSE ∷ rest) c)

fetched-spelled : (tokens : List Symbol) (ns : List (List ℕ)) (rest : List Symbol) → read_fetched tokens ≡ Some (ns, rest)
    → (f : List Symbol) × (tokens ≡ (FETCH ∷ OPEN ∷ f) ++ (CLOSE ∷ rest)) × Commas IsId f ns
unfolding read_fetched
fetched-spelled tokens ns rest e =
    let a = bind-inv (expect FETCH tokens) _ (ns, rest) e in
    let b = bind-inv (expect OPEN a.0) _ (ns, rest) a.2 in
    let c = closed-inv (read_list read_id b.0) ns rest b.2 in
    let t = ids-spelled b.0 ns (CLOSE ∷ rest) c in
    (t.front, expect-inv FETCH tokens a.0 a.1 ∙ ap (λ r. FETCH ∷ r) (expect-inv OPEN a.0 b.0 b.1 ∙ ap (λ r. OPEN ∷ r) t.parts), t.spelled)

-- A statement, or one that lacks its DISTINCT.
pub data SpellsAny : List Symbol → Statement → Type 0 where
  whole : {a : List Symbol} {s : Statement} → Spells a s → SpellsAny a s
  lacking : {a : List Symbol} {t : Tree} {s : Statement} → IsOverQuery a t s → wants_distinct t ≡ true → SpellsAny a s

-- what spells a statement after its first words
abbrev After : List Symbol → List Symbol → Statement → Type 0
After words a s = SpellsAny (words ++ a) s

table-spelled : (tokens : List Symbol) (s : Statement) (rest : List Symbol) → read_create_table tokens ≡ Some (s, rest)
    → Took (After (CREATE ∷ TABLE ∷ [])) tokens s rest
unfolding read_create_table
table-spelled tokens s rest e =
    let a = bind-inv (read_id tokens) _ (s, rest) e in
    let i = id-spelled tokens a.0.0 a.0.1 a.1 in
    let b = bind-inv (read_columns a.0.1) _ (s, rest) a.2 in
    let c = columns-spelled a.0.1 b.0.0 b.0.1 b.1 in
    took_as (record {
      front = i.front ++ OPEN ∷ c.inner ++ CLOSE ∷ [];
      parts = then_parts (i.front ++ OPEN ∷ c.inner) (CLOSE ∷ []) b.0.1 (then_parts i.front (OPEN ∷ c.inner) (CLOSE ∷ b.0.1) i.parts c.parts) refl;
      spelled = whole (create_table i.spelled c.spelled);
    }) b.2

access-spelled : (tokens : List Symbol) (s : Statement) (rest : List Symbol) → read_create_access tokens ≡ Some (s, rest)
    → Took (After (CREATE ∷ ACCESS ∷ [])) tokens s rest
unfolding read_create_access
access-spelled tokens s rest e =
    let a = bind-inv (read_id tokens) _ (s, rest) e in
    let i = id-spelled tokens a.0.0 a.0.1 a.1 in
    let o = bind-inv (expect ON a.0.1) _ (s, rest) a.2 in
    let b = bind-inv (read_id o.0) _ (s, rest) o.2 in
    let j = id-spelled o.0 b.0.0 b.0.1 b.1 in
    let c = bind-inv (read_key b.0.1) _ (s, rest) b.2 in
    let k = key-spelled b.0.1 c.0.0 c.0.1 c.1 in
    let d = bind-inv (read_fetched c.0.1) _ (s, rest) c.2 in
    let f = fetched-spelled c.0.1 d.0.0 d.0.1 d.1 in
    let l = bind-inv (expect LIMIT d.0.1) _ (s, rest) d.2 in
    let n = bind-inv (read_number l.0) _ (s, rest) l.2 in
    let names = then_parts i.front (ON ∷ j.front) b.0.1 i.parts (expect-inv ON a.0.1 o.0 o.1 ∙ ap (λ r. ON ∷ r) j.parts) in
    let keys = then_parts (i.front ++ ON ∷ j.front) (OPEN ∷ k.inner) (CLOSE ∷ c.0.1) names k.parts in
    let fetches = then_parts (i.front ++ ON ∷ j.front ++ OPEN ∷ k.inner) (CLOSE ∷ FETCH ∷ OPEN ∷ f.0) (CLOSE ∷ d.0.1) keys (ap (λ r. CLOSE ∷ r) f.1) in
    let ending = ap (λ r. CLOSE ∷ r) (expect-inv LIMIT d.0.1 l.0 l.1 ∙ ap (λ r. LIMIT ∷ r) (number-inv l.0 n.0.0 n.0.1 n.1)) in
    took_as (record {
      front = i.front ++ ON ∷ j.front ++ OPEN ∷ k.inner ++ CLOSE ∷ FETCH ∷ OPEN ∷ f.0 ++ CLOSE ∷ LIMIT ∷ number n.0.0 ∷ [];
      parts = then_parts (i.front ++ ON ∷ j.front ++ OPEN ∷ k.inner ++ CLOSE ∷ FETCH ∷ OPEN ∷ f.0) (CLOSE ∷ LIMIT ∷ number n.0.0 ∷ []) n.0.1 fetches
          ending;
      spelled = whole (create_access i.spelled j.spelled k.spelled f.2);
    }) n.2

drop-spelled : (tokens : List Symbol) (s : Statement) (rest : List Symbol) → read_drop_access tokens ≡ Some (s, rest) → Took (After (DROP ∷ ACCESS ∷ [])) tokens s rest
unfolding read_drop_access
drop-spelled tokens s rest e =
    let a = bind-inv (read_id tokens) _ (s, rest) e in
    let i = id-spelled tokens a.0.0 a.0.1 a.1 in
    took_as (record {
      front = i.front;
      parts = i.parts;
      spelled = whole (drop_access i.spelled);
    }) a.2

load-spelled : (tokens : List Symbol) (s : Statement) (rest : List Symbol) → read_load tokens ≡ Some (s, rest) → Took (After (LOAD ∷ [])) tokens s rest
unfolding read_load
load-spelled tokens s rest e =
    let a = bind-inv (read_id tokens) _ (s, rest) e in
    let i = id-spelled tokens a.0.0 a.0.1 a.1 in
    let w = bind-inv (expect FROM a.0.1) _ (s, rest) a.2 in
    let q = bind-inv (read_quoted w.0) _ (s, rest) w.2 in
    took_as (record {
      front = i.front ++ FROM ∷ quoted q.0.0 ∷ [];
      parts = then_parts i.front (FROM ∷ quoted q.0.0 ∷ []) q.0.1 i.parts
          (expect-inv FROM a.0.1 w.0 w.1 ∙ ap (λ r. FROM ∷ r) (quoted-inv w.0 q.0.0 q.0.1 q.1));
      spelled = whole (load i.spelled);
    }) q.2

insert-spelled : (tokens : List Symbol) (s : Statement) (rest : List Symbol) → read_insert tokens ≡ Some (s, rest) → Took (After (INSERT ∷ INTO ∷ [])) tokens s rest
unfolding read_insert
insert-spelled tokens s rest e =
    let a = bind-inv (read_id tokens) _ (s, rest) e in
    let i = id-spelled tokens a.0.0 a.0.1 a.1 in
    let v = bind-inv (expect VALUES a.0.1) _ (s, rest) a.2 in
    let b = bind-inv (read_list read_tuple v.0) _ (s, rest) v.2 in
    let t = commas-spelled IsTuple read_tuple tuple-spelled (length v.0) v.0 b.0.0 b.0.1 b.1 in
    took_as (record {
      front = i.front ++ VALUES ∷ t.front;
      parts = then_parts i.front (VALUES ∷ t.front) b.0.1 i.parts (expect-inv VALUES a.0.1 v.0 v.1 ∙ ap (λ r. VALUES ∷ r) t.parts);
      spelled = whole (insert i.spelled t.spelled);
    }) b.2

delete-spelled : (tokens : List Symbol) (s : Statement) (rest : List Symbol) → read_delete tokens ≡ Some (s, rest) → Took (After (DELETE ∷ FROM ∷ [])) tokens s rest
unfolding read_delete
delete-spelled tokens s rest e =
    let a = bind-inv (read_id tokens) _ (s, rest) e in
    let i = id-spelled tokens a.0.0 a.0.1 a.1 in
    let b = bind-inv (read_where a.0.1) _ (s, rest) a.2 in
    let t = where-spelled a.0.1 b.0.0 b.0.1 b.1 in
    took_as (record {
      front = i.front ++ t.front;
      parts = then_parts i.front t.front b.0.1 i.parts t.parts;
      spelled = whole (delete i.spelled t.spelled);
    }) b.2

discover-spelled : (tokens : List Symbol) (s : Statement) (rest : List Symbol) → read_discover tokens ≡ Some (s, rest)
    → Took (After (DISCOVER ∷ [])) tokens s rest
unfolding read_discover read_pairs read_group
discover-spelled tokens s rest e =
    let a = bind-inv (read_id tokens) _ (s, rest) e in
    let i = id-spelled tokens a.0.0 a.0.1 a.1 in
    elim (pick-inv (starts LIMIT a.0.1) (read_pairs a.0.0 (rest_of a.0.1)) (read_group a.0.0 a.0.1) (Some (s, rest)) a.2) [
      | inl l ↦
          let n = bind-inv (read_number (rest_of a.0.1)) _ (s, rest) l.1 in
          took_as (record {
            front = i.front ++ LIMIT ∷ number n.0.0 ∷ [];
            parts = then_parts i.front (LIMIT ∷ number n.0.0 ∷ []) n.0.1 i.parts
                (starts-inv LIMIT a.0.1 l.0 ∙ ap (λ r. LIMIT ∷ r) (number-inv (rest_of a.0.1) n.0.0 n.0.1 n.1));
            spelled = whole (discover_pairs i.spelled);
          })
          n.2
      | inr l ↦
          let c = bind-inv (read_key a.0.1) _ (s, rest) l.1 in
          let k = key-spelled a.0.1 c.0.0 c.0.1 c.1 in
          let d = bind-inv (read_fetched c.0.1) _ (s, rest) c.2 in
          let f = fetched-spelled c.0.1 d.0.0 d.0.1 d.1 in
          let keys = then_parts i.front (OPEN ∷ k.inner) (CLOSE ∷ c.0.1) i.parts k.parts in
          let fetches = then_parts (i.front ++ OPEN ∷ k.inner) (CLOSE ∷ FETCH ∷ OPEN ∷ f.0) (CLOSE ∷ d.0.1) keys (ap (λ r. CLOSE ∷ r) f.1) in
          took_as (record {
            front = i.front ++ OPEN ∷ k.inner ++ CLOSE ∷ FETCH ∷ OPEN ∷ f.0 ++ CLOSE ∷ [];
            parts = then_parts (i.front ++ OPEN ∷ k.inner ++ CLOSE ∷ FETCH ∷ OPEN ∷ f.0) (CLOSE ∷ []) d.0.1 fetches refl;
            spelled = whole (discover_group i.spelled k.spelled f.2);
          }) d.2
    ]

any_over : {a : List Symbol} {t : Tree} {s : Statement} → IsOverQuery a t s → SpellsAny a s
any_over {a} {t} {s} o =
    let go : (b : Bool) → wants_distinct t ≡ b → SpellsAny a s = λ b. elim b as (λ b. wants_distinct t ≡ b → SpellsAny a s)
    [ true ↦ λ e. lacking o e | false ↦ λ e. whole (over_query o e) ] in
    go (wants_distinct t) refl

explain-spelled : (tokens : List Symbol) (s : Statement) (rest : List Symbol) → read_explain tokens ≡ Some (s, rest)
    → Took (After (EXPLAIN ∷ [])) tokens s rest
unfolding read_explain
explain-spelled tokens s rest e =
    let a = bind-inv (read_whole_query tokens) _ (s, rest) e in
    let t = query-spelled tokens a.0.0 a.0.1 a.1 in
    took_as (record { front = t.front; parts = t.parts; spelled = any_over (explain t.spelled) }) a.2

scan_ok-spelled : (tokens : List Symbol) (s : Statement) (rest : List Symbol) → read_scan_ok tokens ≡ Some (s, rest)
    → Took (After (SCAN ∷ OK ∷ [])) tokens s rest
unfolding read_scan_ok
scan_ok-spelled tokens s rest e =
    let a = bind-inv (read_whole_query tokens) _ (s, rest) e in
    let t = query-spelled tokens a.0.0 a.0.1 a.1 in
    took_as (record { front = t.front; parts = t.parts; spelled = any_over (scan_ok t.spelled) }) a.2

specialise-spelled : (tokens : List Symbol) (s : Statement) (rest : List Symbol) → read_specialise tokens ≡ Some (s, rest)
    → Took (After (SPECIALISE ∷ [])) tokens s rest
unfolding read_specialise read_block_term
specialise-spelled tokens s rest e =
    let a = bind-inv (read_block_term tokens) _ (s, rest) e in
    let b = bind-inv (read_block tokens) _ a.0 a.1 in
    let t = block-spelled tokens b.0.0 b.0.1 b.1 in
    let u : Took (After (SPECIALISE ∷ [])) tokens (Specialise (Block b.0.0)) b.0.1 = record
    { front = t.front; parts = t.parts; spelled = any_over (specialise t.spelled) } in
    took_as u (ap (λ (p : Tree × List Symbol). Some (Specialise p.0, p.1)) (some_is (Block b.0.0, b.0.1) a.0 b.2) ∙ a.2)

select-spelled : (tokens : List Symbol) (s : Statement) (rest : List Symbol) → read_select tokens ≡ Some (s, rest) → Took SpellsAny tokens s rest
unfolding read_select
select-spelled tokens s rest e =
    let a = bind-inv (read_whole_query tokens) _ (s, rest) e in
    let t = query-spelled tokens a.0.0 a.0.1 a.1 in
    took_as (record { front = t.front; parts = t.parts; spelled = any_over (select t.spelled) }) a.2

grouped-any : (tokens : List Symbol) (s : Statement) (rest : List Symbol) → read_grouped tokens ≡ Some (s, rest) → Took SpellsAny tokens s rest
grouped-any tokens s rest e = let t = grouped-spelled tokens s rest e in record { front = t.front; parts = t.parts; spelled = whole t.spelled }

selection-spelled : (tokens : List Symbol) (s : Statement) (rest : List Symbol) → read_selection tokens ≡ Some (s, rest) → Took SpellsAny tokens s rest
unfolding read_selection
selection-spelled tokens s rest e =
    elim (pick-inv (has_group tokens) (read_grouped tokens) (read_select tokens) (Some (s, rest)) e) [
      | inl k ↦ grouped-any tokens s rest k.1
      | inr k ↦ select-spelled tokens s rest k.1
    ]

-- ---- by the words that a statement begins with

opened-spelled : (o : Opening) (tokens : List Symbol) (s : Statement) (rest : List Symbol) → read_opened o tokens ≡ Some (s, rest)
    → Took (After (words_of o)) tokens s rest
opened-spelled opening.CreateTable tokens s rest e = table-spelled tokens s rest e
opened-spelled opening.CreateAccess tokens s rest e = access-spelled tokens s rest e
opened-spelled opening.DropAccess tokens s rest e = drop-spelled tokens s rest e
opened-spelled opening.Load tokens s rest e = load-spelled tokens s rest e
opened-spelled opening.Insert tokens s rest e = insert-spelled tokens s rest e
opened-spelled opening.Delete tokens s rest e = delete-spelled tokens s rest e
opened-spelled opening.Discover tokens s rest e = discover-spelled tokens s rest e
opened-spelled opening.Explain tokens s rest e = explain-spelled tokens s rest e
opened-spelled opening.ScanOk tokens s rest e = scan_ok-spelled tokens s rest e
opened-spelled opening.Specialise tokens s rest e = specialise-spelled tokens s rest e

after_words : (words tokens : List Symbol) (s : Statement) (rest : List Symbol) → begins_with words tokens ≡ true
    → Took (After words) (after_all words tokens) s rest → Took SpellsAny tokens s rest
after_words words tokens s rest e t = record {
  front = words ++ t.front;
  parts = begins-inv words tokens e ∙ ap (λ r. words ++ r) t.parts ∙ sym (append_assoc words t.front rest);
  spelled = t.spelled;
}

first-spelled : (os : List Opening) (tokens : List Symbol) (s : Statement) (rest : List Symbol) → read_first os tokens ≡ Some (s, rest)
    → Took SpellsAny tokens s rest
unfolding read_first
first-spelled [] tokens s rest e = selection-spelled tokens s rest e
first-spelled (o ∷ os) tokens s rest e =
    elim (pick-inv (begins_with (words_of o) tokens) (read_opened o (after_all (words_of o) tokens)) (read_first os tokens) (Some (s, rest)) e) [
      | inl k ↦ after_words (words_of o) tokens s rest k.0 (opened-spelled o (after_all (words_of o) tokens) s rest k.1)
      | inr k ↦ first-spelled os tokens s rest k.1
    ]

-- What is read is spelled.
pub statement-spelled : (tokens : List Symbol) (s : Statement) (rest : List Symbol) → read_statement tokens ≡ Some (s, rest) → Took SpellsAny tokens s rest
statement-spelled tokens s rest e = first-spelled openings tokens s rest e
