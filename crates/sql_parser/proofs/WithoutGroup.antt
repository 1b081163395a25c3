-- No query has a word GROUP among its tokens.
use Rattle.std.proofs.Common.{◌≡◌, ℕ, Bool, true, false, List, [], ◌∷◌, ◌++◌, refl, ◌∙◌}
use Rattle.std.specs.Prelude.{codes}
use Rattle.std.specs.List.{list_any}
use Rattle.std.proofs.lemmas.List.Folds.{list_any-append}
use Rattle.sql_text.specs.declared.tree.ColumnRef.{ColumnRef}
use Rattle.sql_text.specs.declared.tree.Cond.{Cond}
use Rattle.sql_text.specs.declared.tree.FromItem.{FromItem}
use Rattle.sql_text.specs.declared.tree.BlockTree.{BlockTree}
use Rattle.sql_text.specs.declared.tree.Literal.{Literal}
use Rattle.sql_text.specs.declared.tree.Side.{Side}
use Rattle.beas_core.specs.declared.query.Sign.{Sign}
use Rattle.sql_text.specs.Trees.{Tree}
use Rattle.beas_core.specs.Spelling.{is_reserved, reserved_words}
use Rattle.sql_text.specs.Symbols.{Symbol, is_word}
use Rattle.sql_text.specs.Grammar.{Commas, last, comma, IsId, id, IsLiteral, plain, positive, negative, between_quotes, IsRef, bare, dotted, IsSide, placed, written, IsSign, equal, differs, not_equal, less, at_most, more, at_least, IsCondition, comparison, range, parentheses, IsConditions, last_condition, conjunction, IsWhere, no_where, where_, IsItem, alone, alias, as_alias, IsJoins, no_join, join, inner_join, cross_join, Source, IsSource, joined_source, IsDistinct, all_rows, distinct_rows, IsOutput, all_columns, columns, IsHead, select_output, Body, IsBody, from_sources, IsBlock, select_block, IsTerm, single, nested, IsQuery, term, union, except}
use Rattle.sql_text.specs.Words.{AND, AS, BETWEEN, DOT, EXCEPT, ON, UNION, CLOSE, COMMA}
use Rattle.token_reader.specs.Reading.{has_group}
use Rattle.sql_parser.proofs.SpelledIsRead.{id_is_no_word}

abbrev Without : List Symbol → Type 0
Without a = list_any (is_word (codes "group")) a ≡ false

both : (a b : List Symbol) → Without a → Without b → Without (a ++ b)
both a b h k = list_any-append (is_word (codes "group")) a b ∙ rw (h, k) refl

pub group-reserved : is_reserved (codes "group") ≡ true
unfolding is_reserved reserved_words
group-reserved = refl

commas-none : {X : Type 0} {Spelled : List Symbol → X → Type 0} → ((a : List Symbol) (x : X) → Spelled a x → Without a) → {a : List Symbol} {xs : List X}
    → Commas Spelled a xs → Without a
commas-none each (last {a} {x} h) = each a x h
commas-none each (comma {a} {b} {x} h hs) = both a (COMMA ∷ b) (each a x h) (commas-none each hs)

id-none : {a : List Symbol} {n : List ℕ} → IsId a n → Without a
id-none (id {n} h) = rw (id_is_no_word (codes "group") n group-reserved h) refl

literal-none : {a : List Symbol} {l : Literal} → IsLiteral a l → Without a
literal-none plain = refl
literal-none positive = refl
literal-none negative = refl
literal-none between_quotes = refl

ref-none : {a : List Symbol} {r : ColumnRef} → IsRef a r → Without a
ref-none (bare i) = id-none i
ref-none (dotted {a} {b} i j) = both a (DOT ∷ b) (id-none i) (id-none j)

side-none : {a : List Symbol} {s : Side} → IsSide a s → Without a
side-none (placed r) = ref-none r
side-none (written l) = literal-none l

sign-none : {a : List Symbol} {s : Sign} → IsSign a s → Without a
sign-none equal = refl
sign-none differs = refl
sign-none not_equal = refl
sign-none less = refl
sign-none at_most = refl
sign-none more = refl
sign-none at_least = refl

mutual
  condition-none : {a : List Symbol} {cs : List Cond} → IsCondition a cs → Without a
  condition-none (comparison {a} {b} {c} l s r some) = both (a ++ b) c (both a b (side-none l) (sign-none s)) (side-none r)
  condition-none (range {a} {b} {c} v l h) = both (a ++ BETWEEN ∷ b) (AND ∷ c) (both a (BETWEEN ∷ b) (ref-none v) (side-none l)) (side-none h)
  condition-none (parentheses {a} h) = both a (CLOSE ∷ []) (conditions-none h) refl

  conditions-none : {a : List Symbol} {cs : List Cond} → IsConditions a cs → Without a
  conditions-none (last_condition h) = condition-none h
  conditions-none (conjunction {a} {b} h hs) = both a (AND ∷ b) (condition-none h) (conditions-none hs)

where-none : {a : List Symbol} {cs : List Cond} → IsWhere a cs → Without a
where-none no_where = refl
where-none (where_ h) = conditions-none h

item-none : {a : List Symbol} {i : FromItem} → IsItem a i → Without a
item-none (alone i) = id-none i
item-none (alias {a} {b} i j) = both a b (id-none i) (id-none j)
item-none (as_alias {a} {b} i j) = both a (AS ∷ b) (id-none i) (id-none j)

joins-none : {a : List Symbol} {is : List FromItem} {cs : List Cond} → IsJoins a is cs → Without a
joins-none no_join = refl
joins-none (join {a} {b} {c} i k others) = both (a ++ ON ∷ b) c (both a (ON ∷ b) (item-none i) (conditions-none k)) (joins-none others)
joins-none (inner_join {a} {b} {c} i k others) = both (a ++ ON ∷ b) c (both a (ON ∷ b) (item-none i) (conditions-none k)) (joins-none others)
joins-none (cross_join {a} {b} i others) = both a b (item-none i) (joins-none others)

source-none : {a : List Symbol} {s : Source} → IsSource a s → Without a
source-none (joined_source {a} {b} i others) = both a b (item-none i) (joins-none others)

body-none : {a : List Symbol} {b : Body} → IsBody a b → Without a
body-none (from_sources {a} {b} s w) = both a b (commas-none (λ _ _ h. source-none h) s) (where-none w)

distinct-none : {a : List Symbol} {d : Bool} → IsDistinct a d → Without a
distinct-none all_rows = refl
distinct-none distinct_rows = refl

output-none : {a : List Symbol} {star : Bool} {rs : List ColumnRef} → IsOutput a star rs → Without a
output-none all_columns = refl
output-none (columns h) = commas-none (λ _ _ r. ref-none r) h

head-none : {a : List Symbol} {distinct star : Bool} {rs : List ColumnRef} → IsHead a distinct star rs → Without a
head-none (select_output {a} {b} d o) = both a b (distinct-none d) (output-none o)

block-none : {a : List Symbol} {b : BlockTree} → IsBlock a b → Without a
block-none (select_block {a} {b} h k) = both a b (head-none h) (body-none k)

mutual
  term-none : {a : List Symbol} {t : Tree} → IsTerm a t → Without a
  term-none (single b) = block-none b
  term-none (nested {a} q) = both a (CLOSE ∷ []) (query-none q) refl

  query-none : {a : List Symbol} {t : Tree} → IsQuery a t → Without a
  query-none (term h) = term-none h
  query-none (union {a} {b} q h) = both a (UNION ∷ b) (query-none q) (term-none h)
  query-none (except {a} {b} q h) = both a (EXCEPT ∷ b) (query-none q) (term-none h)

pub query-no_group : {a : List Symbol} {t : Tree} → IsQuery a t → has_group a ≡ false
unfolding has_group
query-no_group q = query-none q
