-- Grouped statements that are spelled are read.
use Rattle.std.proofs.Common.{◌≡◌, ℕ, ◌<◌, Bool, true, false, cond, List, [], ◌∷◌, ◌++◌, length, Some, refl, sym, ap, ◌∙◌, append_assoc, arith}
use Rattle.std.specs.Prelude.{codes, ◌||◌}
use Rattle.std.specs.List.{list_any}
use Rattle.std.proofs.lemmas.List.{append-nil}
use Rattle.std.proofs.lemmas.List.Folds.{list_any-append}
use Rattle.sql_text.specs.declared.tree.ColumnRef.{ColumnRef}
use Rattle.sql_text.specs.declared.tree.GroupItem.{GroupItem}
use Rattle.sql_text.specs.declared.tree.Statement.TheVariants.{Grouped}
use Rattle.sql_text.specs.Symbols.{Symbol, word, is_word}
use Rattle.sql_text.specs.Trees.{Block}
use Rattle.sql_text.specs.Grammar.{Commas, id, IsRef, bare, dotted, Body, IsBody, from_sources, IsGroupItem, shared, counted, summed, least, greatest}
use Rattle.sql_text.specs.Grouping.{grouped_block}
use Rattle.sql_text.specs.Words.{BY, DISTINCT, GROUP, OPEN, CLOSE, COMMA, DOT, SELECT}
use Rattle.token_reader.specs.Reading.{starts, rest_of, begins_with, has_group}
use Rattle.sql_parser.specs.Reading.{read_list, read_ref, read_body, read_distinct_ref, read_group_item, read_group_keys, read_grouped, read_selection, read_first, read_statement}
use Rattle.sql_parser.proofs.SpelledIsRead.{NoDot, closed-reads, list-reads, ref-reads, ref-some}
use Rattle.sql_parser.proofs.QueryIsRead.{BlockEnds, word-ends, body-reads, body-no, comma-no_dot, nothing-ends}
use Rattle.sql_parser.proofs.WithoutGroup.{group-reserved}

-- ---- items

-- what doesn't go on with an item
record ItemEnds (rest : List Symbol) : Type 0 where
  dot : NoDot rest
  open_ : starts OPEN rest ≡ false

if_shut : (b c : Bool) → c ≡ false → cond b (cond c true false) false ≡ false
if_shut true c e = rw e refl
if_shut false c e = refl

ref-no_function : {a : List Symbol} {r : ColumnRef} → IsRef a r → (f : List ℕ) (rest : List Symbol) → starts OPEN rest ≡ false
    → begins_with (word f ∷ OPEN ∷ []) (a ++ rest) ≡ false
unfolding begins_with rest_of starts
ref-no_function (bare (id {n} h)) f rest e = if_shut (starts (word f) (word n ∷ rest)) (starts OPEN rest) e
ref-no_function (dotted {b = b} (id {n} h) j) f rest e = if_shut (starts (word f) (word n ∷ DOT ∷ (b ++ rest))) (starts OPEN (DOT ∷ (b ++ rest))) refl

distinct-reads : (tokens : List Symbol) (r : ColumnRef) (rest : List Symbol) → read_ref tokens ≡ Some (r, CLOSE ∷ rest)
    → read_distinct_ref (DISTINCT ∷ tokens) ≡ Some (r, rest)
unfolding read_distinct_ref starts rest_of
distinct-reads tokens r rest e = closed-reads (read_ref tokens) r rest e

close-no_dot : (rest : List Symbol) → NoDot (CLOSE ∷ rest)
unfolding starts
close-no_dot rest = refl

ref-closes : {a : List Symbol} {r : ColumnRef} → IsRef a r → (rest : List Symbol) → read_ref ((a ++ CLOSE ∷ []) ++ rest) ≡ Some (r, CLOSE ∷ rest)
ref-closes {a} r rest = ap read_ref (append_assoc a (CLOSE ∷ []) rest) ∙ ref-reads r (CLOSE ∷ rest) (close-no_dot rest)

item-reads : {a : List Symbol} {i : GroupItem} → IsGroupItem a i → (rest : List Symbol) → ItemEnds rest → read_group_item (a ++ rest) ≡ Some (i, rest)
unfolding read_group_item begins_with starts rest_of
item-reads (shared r) rest ends =
    rw (
      ref-no_function r (codes "count") rest ends.open_,
      ref-no_function r (codes "sum") rest ends.open_,
      ref-no_function r (codes "min") rest ends.open_,
      ref-no_function r (codes "max") rest ends.open_,
      ref-reads r rest ends.dot,
    ) refl
item-reads (counted {a} {r} h) rest ends = rw (distinct-reads ((a ++ CLOSE ∷ []) ++ rest) r rest (ref-closes h rest)) refl
item-reads (summed {a} {r} h) rest ends = rw (distinct-reads ((a ++ CLOSE ∷ []) ++ rest) r rest (ref-closes h rest)) refl
item-reads (least {a} {r} h) rest ends = rw (closed-reads (read_ref ((a ++ CLOSE ∷ []) ++ rest)) r rest (ref-closes h rest)) refl
item-reads (greatest {a} {r} h) rest ends = rw (closed-reads (read_ref ((a ++ CLOSE ∷ []) ++ rest)) r rest (ref-closes h rest)) refl

item-some : {a : List Symbol} {i : GroupItem} → IsGroupItem a i → 0 < length a
item-some (shared r) = ref-some r
item-some (counted h) = omega arith
item-some (summed h) = omega arith
item-some (least h) = omega arith
item-some (greatest h) = omega arith

comma-ends : (rest : List Symbol) → ItemEnds (COMMA ∷ rest)
unfolding starts
comma-ends rest = record { dot = refl; open_ = refl }

items-read : {a : List Symbol} {is : List GroupItem} → Commas IsGroupItem a is → (rest : List Symbol) → ItemEnds rest → starts COMMA rest ≡ false
    → read_list read_group_item (a ++ rest) ≡ Some (is, rest)
items-read h rest ends stop =
    list-reads IsGroupItem read_group_item ItemEnds (λ _ _ i rest ends. item-reads i rest ends) (λ _ _ i. item-some i) (λ rest. comma-ends rest) _ _ h rest ends
    stop

-- ---- statements

keys-read : {a : List Symbol} {ks : List ColumnRef} → Commas IsRef a ks → read_group_keys (GROUP ∷ BY ∷ a) ≡ Some (ks, [])
unfolding read_group_keys starts rest_of
keys-read {a} {ks} h =
    ap (read_list read_ref) (sym (append-nil a))
    ∙ list-reads IsRef read_ref NoDot (λ _ _ r rest d. ref-reads r rest d) (λ _ _ r. ref-some r) (λ rest. comma-no_dot rest) a ks h []
    nothing-ends.source.dot nothing-ends.comma

group-ends : (rest : List Symbol) → BlockEnds (GROUP ∷ rest)
unfolding starts
group-ends rest = record { source = word-ends (codes "group") rest group-reserved refl refl refl refl refl; comma = refl; where_ = refl }

grouped-steps : (start next : List Symbol) (items : List GroupItem) (body : Body) (keys : List ColumnRef) (last : List Symbol)
    → read_list read_group_item start ≡ Some (items, next) → read_body next ≡ Some (body, last) → read_group_keys last ≡ Some (keys, [])
    → read_grouped (SELECT ∷ start) ≡ Some (Grouped items keys (Block (grouped_block items keys body.0 body.1)), [])
unfolding read_grouped starts rest_of
grouped-steps start next items body keys last i b k = rw (i, b, k) refl

body-no_open : {a : List Symbol} {b : Body} → IsBody a b → (rest : List Symbol) → starts OPEN (a ++ rest) ≡ false
unfolding starts
body-no_open (from_sources s w) rest = refl

body-item_ends : {a : List Symbol} {b : Body} → IsBody a b → (rest : List Symbol) → ItemEnds (a ++ rest)
body-item_ends k rest = record { dot = (body-no k rest).0; open_ = body-no_open k rest }

grouped-whole : {a b c : List Symbol} {items : List GroupItem} {body : Body} {keys : List ColumnRef} → Commas IsGroupItem a items → IsBody b body
    → Commas IsRef c keys
    → read_grouped (SELECT ∷ a ++ b ++ GROUP ∷ BY ∷ c) ≡ Some (Grouped items keys (Block (grouped_block items keys body.0 body.1)), [])
grouped-whole {a} {b} {c} {items} {body} {keys} i k h =
    ap (λ t. read_grouped (SELECT ∷ t)) (append_assoc a b (GROUP ∷ BY ∷ c))
    ∙ grouped-steps (a ++ (b ++ GROUP ∷ BY ∷ c)) (b ++ GROUP ∷ BY ∷ c) items body keys (GROUP ∷ BY ∷ c)
    (items-read i (b ++ GROUP ∷ BY ∷ c) (body-item_ends k (GROUP ∷ BY ∷ c)) (body-no k (GROUP ∷ BY ∷ c)).1)
    (body-reads k (GROUP ∷ BY ∷ c) (group-ends (BY ∷ c))) (keys-read h)

or_true : (b : Bool) → (b || true) ≡ true
or_true true = refl
or_true false = refl

with_group : (a c : List Symbol) → has_group (SELECT ∷ a ++ GROUP ∷ c) ≡ true
unfolding has_group
with_group a c = list_any-append (is_word (codes "group")) a (GROUP ∷ c) ∙ or_true (list_any (is_word (codes "group")) a)

selects : (tokens : List Symbol) → read_statement (SELECT ∷ tokens) ≡ read_selection (SELECT ∷ tokens)
unfolding read_first begins_with starts
selects tokens = refl

selects-grouped : (tokens : List Symbol) → has_group tokens ≡ true → read_selection tokens ≡ read_grouped tokens
unfolding read_selection
selects-grouped tokens e = rw e refl

pub grouped-reads : {a b c : List Symbol} {items : List GroupItem} {body : Body} {keys : List ColumnRef} → Commas IsGroupItem a items → IsBody b body
    → Commas IsRef c keys
    → read_statement (SELECT ∷ a ++ b ++ GROUP ∷ BY ∷ c) ≡ Some (Grouped items keys (Block (grouped_block items keys body.0 body.1)), [])
grouped-reads {a} {b} {c} i k h =
    selects ((a ++ b) ++ GROUP ∷ BY ∷ c) ∙ selects-grouped (SELECT ∷ a ++ b ++ GROUP ∷ BY ∷ c) (with_group (a ++ b) (BY ∷ c)) ∙ grouped-whole i k h
