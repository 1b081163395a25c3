-- Statements that are spelled are read.
use Rattle.std.proofs.Common.{◌≡◌, ℕ, true, false, List, [], ◌∷◌, ◌++◌, Option, Some, None, refl, sym, ap, subst, ◌∙◌, append_assoc}
use Rattle.std.specs.Prelude.{codes, bytes_eq}
use Rattle.std.proofs.lemmas.List.{append-nil}
use Rattle.beas_core.specs.declared.schema.Column.{Column}
use Rattle.sql_text.specs.declared.tree.Literal.{Literal}
use Rattle.sql_text.specs.declared.tree.Cond.{Cond}
use Rattle.sql_text.specs.declared.tree.Statement.{Statement}
use Rattle.sql_text.specs.declared.tree.Statement.TheVariants.{CreateTable, CreateAccess, DropAccess, Load, Insert, Delete, DiscoverGroup, DiscoverPairs, Select, Explain, ScanOk, Specialise}
use Rattle.sql_parser.specs.declared.statements.Opening.{Opening}
use Rattle.sql_parser.specs.declared.statements.Opening.TheVariants as opening
use Rattle.sql_text.specs.declared.tree.BlockTree.{BlockTree}
use Rattle.sql_text.specs.Trees.{Tree, Block}
use Rattle.beas_core.specs.Spelling.{is_name}
use Rattle.sql_text.specs.Symbols.{Symbol, word, number, quoted}
use Rattle.sql_text.specs.Grammar.{Commas, IsId, id, IsMaybeIds, IsColumn, IsTuple, IsWhere, IsBlock, IsQuery, Spells, create_table, create_access, drop_access, load, insert, delete, discover_group, discover_pairs, grouped, over_query, IsOverQuery, select, explain, scan_ok, specialise}
use Rattle.sql_text.specs.Words.{ACCESS, CREATE, DELETE, DISCOVER, DROP, EXPLAIN, FETCH, FROM, INSERT, INTO, LIMIT, LOAD, OK, ON, SCAN, SELECT, SPECIALISE, TABLE, VALUES, OPEN, CLOSE}
use Rattle.token_reader.specs.Reading.{starts, rest_of, read_id, read_number, read_quoted, has_group, begins_with, after_all}
use Rattle.sql_parser.specs.Reading.{read_list, read_maybe_ids, read_column, read_tuple, read_where, read_whole_query, read_columns, read_key, read_fetched, read_create_table, read_create_access, read_drop_access, read_load, read_insert, read_delete, read_pairs, read_group, read_discover, read_explain, read_scan_ok, read_block, read_block_term, read_specialise, read_select, read_selection, words_of, openings, read_first, read_statement}
use Rattle.sql_parser.proofs.SpelledIsRead.{ids-reads, closed-reads, maybe_ids-reads, columns-read, tuples-read}
use Rattle.sql_parser.proofs.Openings.{first-passes}
use Rattle.sql_parser.proofs.QueryIsRead.{nothing-ends, where-reads, block-reads, query-reads, query-no}
use Rattle.sql_parser.proofs.WithoutGroup.{query-no_group}
use Rattle.sql_parser.proofs.GroupedIsRead.{grouped-reads}

columns-closed : {a : List Symbol} {cs : List Column} → Commas IsColumn a cs → (rest : List Symbol)
    → read_columns (OPEN ∷ (a ++ CLOSE ∷ rest)) ≡ Some (cs, rest)
unfolding read_columns starts rest_of
columns-closed {a} {cs} h rest = closed-reads (read_list read_column (a ++ CLOSE ∷ rest)) cs rest (columns-read h (CLOSE ∷ rest) refl)

key-closed : {a : List Symbol} {ns : List (List ℕ)} → IsMaybeIds a ns → (rest : List Symbol) → read_key (OPEN ∷ (a ++ CLOSE ∷ rest)) ≡ Some (ns, rest)
unfolding read_key starts rest_of
key-closed {a} {ns} h rest = closed-reads (read_maybe_ids (a ++ CLOSE ∷ rest)) ns rest (maybe_ids-reads h rest)

fetched-closed : {a : List Symbol} {ns : List (List ℕ)} → Commas IsId a ns → (rest : List Symbol)
    → read_fetched (FETCH ∷ OPEN ∷ (a ++ CLOSE ∷ rest)) ≡ Some (ns, rest)
unfolding read_fetched starts rest_of
fetched-closed {a} {ns} h rest = closed-reads (read_list read_id (a ++ CLOSE ∷ rest)) ns rest (ids-reads h (CLOSE ∷ rest) refl)

table-reads : (n : List ℕ) (cs : List Column) (tokens : List Symbol) → is_name n ≡ true → read_columns tokens ≡ Some (cs, [])
    → read_statement (CREATE ∷ TABLE ∷ word n ∷ tokens) ≡ Some (CreateTable n cs, [])
unfolding read_first begins_with after_all read_create_table read_id starts rest_of
table-reads n cs tokens r e = rw (r, e) refl

access-reads : (n t limit : List ℕ) (key fetched : List (List ℕ)) (tokens next : List Symbol) → is_name n ≡ true → is_name t ≡ true
    → read_key tokens ≡ Some (key, next) → read_fetched next ≡ Some (fetched, LIMIT ∷ number limit ∷ [])
    → read_statement (CREATE ∷ ACCESS ∷ word n ∷ ON ∷ word t ∷ tokens)
    ≡ Some (CreateAccess (record { name = n; table = t; key = key; fetched = fetched; limit = limit }), [])
unfolding read_first begins_with after_all read_create_access read_id read_number starts rest_of
access-reads n t limit key fetched tokens next r q e f = rw (r, q, e, f) refl

drop-reads : (n : List ℕ) → is_name n ≡ true → read_statement (DROP ∷ ACCESS ∷ word n ∷ []) ≡ Some (DropAccess n, [])
unfolding read_first begins_with after_all read_drop_access read_id starts rest_of
drop-reads n r = rw r refl

load-reads : (t file : List ℕ) → is_name t ≡ true → read_statement (LOAD ∷ word t ∷ FROM ∷ quoted file ∷ []) ≡ Some (Load t file, [])
unfolding read_first begins_with after_all read_load read_id read_quoted starts rest_of
load-reads t file r = rw r refl

insert-reads : (t : List ℕ) (rows : List (List Literal)) (tokens : List Symbol) → is_name t ≡ true → read_list read_tuple tokens ≡ Some (rows, [])
    → read_statement (INSERT ∷ INTO ∷ word t ∷ VALUES ∷ tokens) ≡ Some (Insert t rows, [])
unfolding read_first begins_with after_all read_insert read_id starts rest_of
insert-reads t rows tokens r e = rw (r, e) refl

delete-reads : (t : List ℕ) (cs : List Cond) (tokens : List Symbol) → is_name t ≡ true → read_where tokens ≡ Some (cs, [])
    → read_statement (DELETE ∷ FROM ∷ word t ∷ tokens) ≡ Some (Delete t cs, [])
unfolding read_first begins_with after_all read_delete read_id starts rest_of
delete-reads t cs tokens r e = rw (r, e) refl

key-no_limit : (tokens : List Symbol) → starts LIMIT (OPEN ∷ tokens) ≡ false
unfolding starts
key-no_limit tokens = refl

group-reads : (t : List ℕ) (key fetched : List (List ℕ)) (tokens next : List Symbol) → is_name t ≡ true → starts LIMIT tokens ≡ false
    → read_key tokens ≡ Some (key, next) → read_fetched next ≡ Some (fetched, [])
    → read_statement (DISCOVER ∷ word t ∷ tokens) ≡ Some (DiscoverGroup t key fetched, [])
unfolding read_first begins_with after_all read_discover read_group read_id starts rest_of
group-reads t key fetched tokens next r l e f = rw (r, l, e, f) refl

pairs-read : (t limit : List ℕ) → is_name t ≡ true → read_statement (DISCOVER ∷ word t ∷ LIMIT ∷ number limit ∷ []) ≡ Some (DiscoverPairs t limit, [])
unfolding read_first begins_with after_all read_discover read_pairs read_id read_number starts rest_of
pairs-read t limit r = rw r refl

explain-reads : (tokens : List Symbol) (t : Tree) → read_whole_query tokens ≡ Some (t, []) → read_statement (EXPLAIN ∷ tokens) ≡ Some (Explain t, [])
unfolding read_first begins_with after_all read_explain starts rest_of
explain-reads tokens t e = rw e refl

scan_ok-reads : (tokens : List Symbol) (t : Tree) → read_whole_query tokens ≡ Some (t, []) → read_statement (SCAN ∷ OK ∷ tokens) ≡ Some (ScanOk t, [])
unfolding read_first begins_with after_all read_scan_ok starts rest_of
scan_ok-reads tokens t e = rw e refl

specialise-reads : (tokens : List Symbol) (b : BlockTree) → read_block tokens ≡ Some (b, [])
    → read_statement (SPECIALISE ∷ tokens) ≡ Some (Specialise (Block b), [])
unfolding read_first begins_with after_all read_specialise read_block_term starts rest_of
specialise-reads tokens b e = rw e refl

whole-block : {a : List Symbol} {b : BlockTree} → IsBlock a b → read_block a ≡ Some (b, [])
whole-block {a} h = ap read_block (sym (append-nil a)) ∙ block-reads h [] nothing-ends

whole-query : {a : List Symbol} {t : Tree} → IsQuery a t → read_whole_query a ≡ Some (t, [])
unfolding starts
whole-query {a} q = ap read_whole_query (sym (append-nil a)) ∙ query-reads q [] nothing-ends refl refl

no_select : (w : List ℕ) → bytes_eq w (codes "select") ≡ false → starts (word w) (SELECT ∷ []) ≡ false
unfolding starts
no_select w e = e

never : {a : List Symbol} {t : Tree} → IsQuery a t → (w : List ℕ) → bytes_eq w (codes "select") ≡ false → starts (word w) a ≡ false
never {a} q w e = subst (λ u. starts (word w) u ≡ false) (append-nil a) (query-no w (no_select w e) q [])

begins-no : (w : Symbol) (ws tokens : List Symbol) → starts w tokens ≡ false → begins_with (w ∷ ws) tokens ≡ false
unfolding begins_with
begins-no w ws tokens e = rw e refl

-- no query begins as another statement does
query-no_opening : {a : List Symbol} {t : Tree} → IsQuery a t → (o : Opening) → begins_with (words_of o) a ≡ false
query-no_opening {a} q opening.CreateTable = begins-no CREATE (TABLE ∷ []) a (never q (codes "create") refl)
query-no_opening {a} q opening.CreateAccess = begins-no CREATE (ACCESS ∷ []) a (never q (codes "create") refl)
query-no_opening {a} q opening.DropAccess = begins-no DROP (ACCESS ∷ []) a (never q (codes "drop") refl)
query-no_opening {a} q opening.Load = begins-no LOAD [] a (never q (codes "load") refl)
query-no_opening {a} q opening.Insert = begins-no INSERT (INTO ∷ []) a (never q (codes "insert") refl)
query-no_opening {a} q opening.Delete = begins-no DELETE (FROM ∷ []) a (never q (codes "delete") refl)
query-no_opening {a} q opening.Discover = begins-no DISCOVER [] a (never q (codes "discover") refl)
query-no_opening {a} q opening.Explain = begins-no EXPLAIN [] a (never q (codes "explain") refl)
query-no_opening {a} q opening.ScanOk = begins-no SCAN (OK ∷ []) a (never q (codes "scan") refl)
query-no_opening {a} q opening.Specialise = begins-no SPECIALISE [] a (never q (codes "specialise") refl)

selects-query : (tokens : List Symbol) → has_group tokens ≡ false → read_selection tokens ≡ read_select tokens
unfolding read_selection
selects-query tokens e = rw e refl

query-left : {a : List Symbol} {t : Tree} → IsQuery a t → (os : List Opening) → read_first os a ≡ read_select a
unfolding read_first
query-left {a} q [] = selects-query a (query-no_group q)
query-left {a} q (o ∷ os) = first-passes o os a (query-no_opening q o) ∙ query-left q os

select-reads : (tokens : List Symbol) (t : Tree) → read_whole_query tokens ≡ Some (t, []) → read_select tokens ≡ Some (Select t, [])
unfolding read_select
select-reads tokens t e = rw e refl

-- A statement over a query is read, also where it lacks its DISTINCT.
pub over-reads : {a : List Symbol} {t : Tree} {s : Statement} → IsOverQuery a t s → read_statement a ≡ Some (s, [])
over-reads (select {a} {t} q) = query-left q openings ∙ select-reads a t (whole-query q)
over-reads (explain {a} {t} q) = explain-reads a t (whole-query q)
over-reads (scan_ok {a} {t} q) = scan_ok-reads a t (whole-query q)
over-reads (specialise {a} {b} h) = specialise-reads a b (whole-block h)

tuples-whole : {a : List Symbol} {rows : List (List Literal)} → Commas IsTuple a rows → read_list read_tuple a ≡ Some (rows, [])
unfolding starts
tuples-whole {a} h = ap (read_list read_tuple) (sym (append-nil a)) ∙ tuples-read h [] refl

where-whole : {a : List Symbol} {cs : List Cond} → IsWhere a cs → read_where a ≡ Some (cs, [])
where-whole {a} h = ap read_where (sym (append-nil a)) ∙ where-reads h [] nothing-ends.source.dot nothing-ends.source.and_ nothing-ends.where_

-- What is spelled is read.
pub spelled-reads : {a : List Symbol} {s : Statement} → Spells a s → read_statement a ≡ Some (s, [])
spelled-reads (create_table {b = b} (id r) h) = table-reads _ _ (OPEN ∷ (b ++ CLOSE ∷ [])) r (columns-closed h [])
spelled-reads (create_access {c = c} {d = d} {limit = limit} (id {n = name} r) (id {n = table} q) k f) =
    ap (λ u. read_statement (CREATE ∷ ACCESS ∷ word name ∷ ON ∷ word table ∷ OPEN ∷ u))
    (append_assoc c (CLOSE ∷ FETCH ∷ OPEN ∷ d) (CLOSE ∷ LIMIT ∷ number limit ∷ []))
    ∙ access-reads name table limit _ _ (OPEN ∷ (c ++ CLOSE ∷ (FETCH ∷ OPEN ∷ (d ++ CLOSE ∷ LIMIT ∷ number limit ∷ []))))
    (FETCH ∷ OPEN ∷ (d ++ CLOSE ∷ LIMIT ∷ number limit ∷ [])) r q (key-closed k _) (fetched-closed f _)
spelled-reads (drop_access (id r)) = drop-reads _ r
spelled-reads (load {file = file} (id r)) = load-reads _ file r
spelled-reads (insert {b = b} (id r) h) = insert-reads _ _ b r (tuples-whole h)
spelled-reads (delete {b = b} (id r) w) = delete-reads _ _ b r (where-whole w)
spelled-reads (discover_group {b = b} {c = c} (id {n = table} r) k f) =
    ap (λ u. read_statement (DISCOVER ∷ word table ∷ OPEN ∷ u)) (append_assoc b (CLOSE ∷ FETCH ∷ OPEN ∷ c) (CLOSE ∷ []))
    ∙ group-reads table _ _ (OPEN ∷ (b ++ CLOSE ∷ (FETCH ∷ OPEN ∷ (c ++ CLOSE ∷ [])))) (FETCH ∷ OPEN ∷ (c ++ CLOSE ∷ [])) r (key-no_limit _) (key-closed k _)
    (fetched-closed f [])
spelled-reads (discover_pairs {limit = limit} (id r)) = pairs-read _ limit r
spelled-reads (grouped i k h) = grouped-reads i k h
spelled-reads (over_query o e) = over-reads o

abbrev read_or : Statement → Option (Statement × List Symbol) → Statement
read_or other (Some p) = p.0
read_or other None = other

pub one_statement : {a : List Symbol} {s t : Statement} → Spells a s → Spells a t → s ≡ t
one_statement {a} {s} {t} h k = ap (read_or s) (sym (spelled-reads h) ∙ spelled-reads k)
