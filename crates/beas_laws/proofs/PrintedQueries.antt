-- The lexemes of blocks and queries spell them again, without joins and with the parentheses that are needed.
use Rattle.std.proofs.Common.{◌≡◌, ℕ, Bool, true, List, [], ◌∷◌, ◌++◌, refl, sym, ap, subst, ◌∙◌, inl, inr}
use Rattle.std.specs.Prelude.{codes, bytes_eq, map}
use Rattle.std.specs.List.{flat_map, AllByRecursion as Each}
use Rattle.std.proofs.lemmas.Bool.{cases_Bool}
use Rattle.std.proofs.lemmas.List.{append-nil, map-append}
use Rattle.std.proofs.lemmas.Slice.Eq.{bytes_eq-Decides}
use Rattle.beas_core.specs.Spelling.{is_name}
use Rattle.sql_text.specs.declared.tree.ColumnRef.{ColumnRef}
use Rattle.sql_text.specs.declared.tree.Cond.{Cond}
use Rattle.sql_text.specs.declared.tree.FromItem.{FromItem}
use Rattle.sql_text.specs.declared.tree.BlockTree.{BlockTree}
use Rattle.sql_text.specs.Trees.{Tree, Block, Union, Except}
use Rattle.sql_text.specs.Canonical.{Lexeme, keyword, sign, comma_list, where_of, item_of, output_of, distinct_of, head_of, body_of, block_of as block_lexemes, operand_of, tree_lexemes}
use Rattle.sql_text.specs.Symbols.{Symbol, word, mark}
use Rattle.sql_text.specs.Grammar.{Commas, last, comma, id, IsItem, alone, alias, as_alias, IsJoins, no_join, join, inner_join, cross_join, Source, IsSource, joined_source, IsDistinct, all_rows, distinct_rows, IsOutput, all_columns, columns, Body, body_of as joined_body, IsBody, from_sources, IsHead, select_output, IsBlock, select_block, IsTerm, single, nested, IsQuery, term, union, except}
use Rattle.sql_text.specs.Words.{CLOSE, COMMA, EXCEPT, FROM, JOIN, ON, SELECT, UNION}
use Rattle.beas_laws.proofs.Clean.{symbol, star_mark, none, name_then, sign_then, clean-append}
use Rattle.beas_laws.proofs.Lexicals.{IsNameText, IsLexical, AreLexical, front, back}
use Rattle.beas_laws.proofs.PrintedParts.{Again, clean-keyword, closed, clean-closed, listed_again, commas-again, ref-again}
use Rattle.beas_laws.proofs.PrintedConditions.{each-append, ConditionAgain, conditions-again, where-again, where_again}

-- ---- tables
item-spelled : (t n : List ℕ) → is_name t ≡ true → is_name n ≡ true → IsNameText t → IsNameText n → Again IsItem item_of (record { table = t; alias = n })
item-spelled t n p q h k =
    elim (cases_Bool (bytes_eq n t)) [
      | inl e ↦ record {
        spelled = rw e (subst (λ m. IsItem (word t ∷ []) (record { table = t; alias = m })) (sym ((bytes_eq-Decides n t).0 e)) (alone (id p)));
        clean = rw e (name_then h none);
      }
      | inr e ↦ record {
        spelled = rw e (as_alias (id p) (id q));
        clean = rw e (name_then h (clean-keyword (codes "AS") refl (name_then k none)));
      }
    ]

abbrev ItemAgain : FromItem → Type 0
ItemAgain item = Again IsItem item_of item

item-again : (a : List Symbol) (i : FromItem) → IsItem a i → AreLexical a → ItemAgain i
item-again a i (alone (id {n = t} p)) l = item-spelled t t p p l.0 l.0
item-again a i (alias (id {n = t} p) (id {n = n} q)) l = item-spelled t n p q l.0 l.1.0
item-again a i (as_alias (id {n = t} p) (id {n = n} q)) l = item-spelled t n p q l.0 l.1.1.0

-- ---- sources
abbrev SourceAgain : Source → Type 0
SourceAgain source = Each ItemAgain source.0 × Each ConditionAgain source.1

condition-part : (a b c : List Symbol) → AreLexical (((JOIN ∷ a) ++ (ON ∷ b)) ++ c) → AreLexical a × AreLexical b × AreLexical c
condition-part a b c l =
    let ahead = front IsLexical ((JOIN ∷ a) ++ (ON ∷ b)) c l in
    (front IsLexical a (ON ∷ b) ahead.1, (back IsLexical a (ON ∷ b) ahead.1).1, back IsLexical ((JOIN ∷ a) ++ (ON ∷ b)) c l)

joins-again : (a : List Symbol) (is : List FromItem) (cs : List Cond) → IsJoins a is cs → AreLexical a → SourceAgain ((is, cs))
joins-again a is cs no_join l = (tt, tt)
joins-again a is cs (join {a = x} {b = y} {c = z} {i = i} {is = js} {cs = ds} {ds = es} h k more) l =
    let parts = condition-part x y z l in
    let others = joins-again z js es more parts.2 in
    ((item-again x i h parts.0, others.0), each-append ConditionAgain ds es (conditions-again y ds k parts.1) others.1)
joins-again a is cs (inner_join {a = x} {b = y} {c = z} {i = i} {is = js} {cs = ds} {ds = es} h k more) l =
    let parts = condition-part x y z l.1 in
    let others = joins-again z js es more parts.2 in
    ((item-again x i h parts.0, others.0), each-append ConditionAgain ds es (conditions-again y ds k parts.1) others.1)
joins-again a is cs (cross_join {a = x} {b = y} {i = i} {is = js} h more) l =
    let others = joins-again y js cs more (back IsLexical x y l.1.1) in
    ((item-again x i h (front IsLexical x y l.1.1), others.0), others.1)

-- sources, and the first item
record AreSources (sources : List Source) : Type 0 where
  first : FromItem
  others : List FromItem
  items : flat_map (λ s. s.0) sources ≡ first ∷ others
  first_again : ItemAgain first
  others_again : Each ItemAgain others
  conditions : Each ConditionAgain (flat_map (λ s. s.1) sources)

all-again : {c : List Symbol} {ss : List Source} → Commas IsSource c ss → AreLexical c
    → Each ItemAgain (flat_map (λ s. s.0) ss) × Each ConditionAgain (flat_map (λ s. s.1) ss)
all-again (last (joined_source {a = x} {b = y} {i = i} {is = is} {cs = cs} h k)) l =
    let others = joins-again y is cs k (back IsLexical x y l) in
    ((item-again x i h (front IsLexical x y l), each-append ItemAgain is [] others.0 tt), each-append ConditionAgain cs [] others.1 tt)
all-again (comma {b = b} {xs = ss} (joined_source {a = x} {b = y} {i = i} {is = is} {cs = cs} h k) more) l =
    let here = front IsLexical (x ++ y) (COMMA ∷ b) l in
    let others = joins-again y is cs k (back IsLexical x y here) in
    let behind = all-again more (back IsLexical (x ++ y) (COMMA ∷ b) l).1 in (
      (item-again x i h (front IsLexical x y here), each-append ItemAgain is (flat_map (λ s. s.0) ss) others.0 behind.0),
      each-append ConditionAgain cs
          (flat_map (λ s. s.1) ss) others.1 behind.1,
    )

sources-again : {c : List Symbol} {ss : List Source} → Commas IsSource c ss → AreLexical c → AreSources ss
sources-again (last (joined_source {a = x} {b = y} {i = i} {is = is} {cs = cs} h k)) l =
    let all = all-again (last (joined_source {a = x} {b = y} h k)) l in
    record { first = i; others = is ++ []; items = refl; first_again = all.0.0; others_again = all.0.1; conditions = all.1 }
sources-again (comma {b = b} {xs = ss} (joined_source {a = x} {b = y} {i = i} {is = is} {cs = cs} h k) more) l =
    let all = all-again (comma (joined_source {a = x} {b = y} h k) more) l in
    record { first = i; others = is ++ flat_map (λ s. s.0) ss; items = refl; first_again = all.0.0; others_again = all.0.1; conditions = all.1 }

-- an item without joins
abbrev lone : FromItem → Source
lone item = (item ∷ [], [])

commas-map : {a : List Symbol} {is : List FromItem} → Commas (λ s i. IsSource s (lone i)) a is → Commas IsSource a (map lone is)
commas-map (last h) = last h
commas-map (comma h more) = comma h (commas-map more)

item-lone : (i : FromItem) → ItemAgain i → Again (λ s j. IsSource s (lone j)) item_of i
item-lone i h = record { spelled = subst (λ s. IsSource s (lone i)) (append-nil (map symbol (item_of i))) (joined_source h.spelled no_join); clean = h.clean }

items-lone : (is : List FromItem) → Each ItemAgain is → Each (Again (λ s j. IsSource s (lone j)) item_of) is
items-lone [] h = tt
items-lone (i ∷ is) h = (item-lone i h.0, items-lone is h.1)

lone-items : (is : List FromItem) → flat_map (λ s. s.0) (map lone is) ≡ is
lone-items [] = refl
lone-items (i ∷ is) = ap (λ js. i ∷ js) (lone-items is)

lone-conditions : (is : List FromItem) → flat_map (λ s. s.1) (map lone is) ≡ []
lone-conditions [] = refl
lone-conditions (i ∷ is) = lone-conditions is

-- ---- blocks
distinct-again : (a : List Symbol) (d : Bool) → IsDistinct a d → Again IsDistinct distinct_of d
distinct-again a d all_rows = record { spelled = all_rows; clean = none }
distinct-again a d distinct_rows = record { spelled = distinct_rows; clean = clean-keyword (codes "DISTINCT") refl none }

output-again : (a : List Symbol) (star : Bool) (rs : List ColumnRef) → IsOutput a star rs → AreLexical a
    → Again (λ s refs. IsOutput s star refs) (output_of star) rs
output-again a star rs all_columns l = record { spelled = all_columns; clean = sign_then star_mark none }
output-again a star rs (columns h) l = let again = commas-again ref-again h l in record { spelled = columns again.spelled; clean = again.clean }

head-shape : (d o : List Lexeme) → map symbol (keyword (codes "SELECT") ∷ d ++ o) ≡ SELECT ∷ map symbol d ++ map symbol o
head-shape d o = map-append symbol (keyword (codes "SELECT") ∷ d) o

body-shape : (f w : List Lexeme) → map symbol (keyword (codes "FROM") ∷ f ++ w) ≡ FROM ∷ map symbol f ++ map symbol w
body-shape f w = map-append symbol (keyword (codes "FROM") ∷ f) w

head-again : (a : List Symbol) (distinct star : Bool) (rs : List ColumnRef) → IsHead a distinct star rs → AreLexical a
    → Again (λ s refs. IsHead s distinct star refs) (head_of distinct star) rs
head-again a distinct star rs (select_output {a = x} {b = y} d o) l =
    let d_again = distinct-again x distinct d in
    let o_again = output-again y star rs o (back IsLexical (SELECT ∷ x) y l) in
    record {
      spelled = subst (λ t. IsHead t distinct star rs) (sym (head-shape (distinct_of distinct) (output_of star rs)))
          (select_output d_again.spelled o_again.spelled);
      clean = clean-append (clean-keyword (codes "SELECT") refl d_again.clean) o_again.clean;
    }

abbrev pub body_lexemes : Body → List Lexeme
body_lexemes body = body_of body.0 body.1

abbrev as_body : List FromItem → List Cond → Body
as_body items conditions = (items, conditions)

-- items without joins, and all conditions after WHERE
plain-body : (items : List FromItem) (conditions : List Cond) → joined_body (map lone items) conditions ≡ as_body items conditions
plain-body items conditions =
    ap (λ is. as_body is (flat_map (λ s. s.1) (map lone items) ++ conditions)) (lone-items items)
    ∙ ap (λ cs. as_body items (cs ++ conditions)) (lone-conditions items)

pub body-again : (a : List Symbol) (body : Body) → IsBody a body → AreLexical a → Again IsBody body_lexemes body
body-again a body (from_sources {a = z} {b = v} {ss = ss} {cs = cs} s w) l =
    let sources = sources-again s (front IsLexical (FROM ∷ z) v l).1 in
    let f_again : Again (Commas (λ s i. IsSource s (lone i))) (comma_list item_of) (sources.first ∷ sources.others) =
    listed_again sources.first sources.others (item-lone sources.first sources.first_again) (items-lone sources.others sources.others_again) in
    let conditions : List Cond = flat_map (λ s. s.1) ss ++ cs in
    let w_again = where_again conditions (each-append ConditionAgain (flat_map (λ s. s.1) ss) cs sources.conditions
    (where-again v cs w (back IsLexical (FROM ∷ z) v l))) in
    let items = sources.first ∷ sources.others in
    let again : Again IsBody body_lexemes (as_body items conditions) = record {
      spelled = subst (λ t. IsBody t (as_body items conditions)) (sym (body-shape (comma_list item_of items) (where_of conditions)))
          (subst (λ t. IsBody (FROM ∷ map symbol (comma_list item_of items) ++ map symbol (where_of conditions)) t) (plain-body items conditions)
          (from_sources (commas-map f_again.spelled) w_again.spelled));
      clean = clean-append (clean-keyword (codes "FROM") refl f_again.clean) w_again.clean;
    } in
    subst (λ is. Again IsBody body_lexemes (as_body is conditions)) (sym sources.items) again

pub block-again : (a : List Symbol) (b : BlockTree) → IsBlock a b → AreLexical a → Again IsBlock block_lexemes b
block-again a b (select_block {a = x} {b = y} {distinct = distinct} {star = star} {rs = rs} {body = body} h k) l =
    let h_again = head-again x distinct star rs h (front IsLexical x y l) in
    let k_again = body-again y body k (back IsLexical x y l) in
    record {
      spelled = subst (λ t. IsBlock t b) (sym (map-append symbol (head_of distinct star rs) (body_lexemes body)))
          (select_block h_again.spelled k_again.spelled);
      clean = clean-append h_again.clean k_again.clean;
    }

-- ---- queries
abbrev AreAgain : Tree → Type 0
AreAgain (Block b) = Again IsBlock block_lexemes b
AreAgain (Union left right) = AreAgain left × AreAgain right
AreAgain (Except left right) = AreAgain left × AreAgain right

mutual
  term-blocks : (a : List Symbol) (t : Tree) → IsTerm a t → AreLexical a → AreAgain t
  term-blocks a t (single {b = b} h) l = block-again a b h l
  term-blocks a t (nested {a = inner} h) l = query-blocks inner t h (front IsLexical inner (CLOSE ∷ []) l.1)

  query-blocks : (a : List Symbol) (t : Tree) → IsQuery a t → AreLexical a → AreAgain t
  query-blocks a t (term h) l = term-blocks a t h l
  query-blocks a t (union {a = x} {b = y} {t = left} {u = right} h k) l =
      (query-blocks x left h (front IsLexical x (UNION ∷ y) l), term-blocks y right k (back IsLexical x (UNION ∷ y) l).1)
  query-blocks a t (except {a = x} {b = y} {t = left} {u = right} h k) l =
      (query-blocks x left h (front IsLexical x (EXCEPT ∷ y) l), term-blocks y right k (back IsLexical x (EXCEPT ∷ y) l).1)

abbrev operand_lexemes : Tree → List Lexeme
operand_lexemes tree = operand_of tree (tree_lexemes tree)

in_parentheses-again : (t : Tree) → Again IsQuery tree_lexemes t → Again IsTerm (λ u. sign (codes "(") ∷ (tree_lexemes u ++ sign (codes ")") ∷ [])) t
in_parentheses-again t h = record {
  spelled = subst (λ a. IsTerm (mark (codes "(") ∷ a) t) (sym (closed (tree_lexemes t))) (nested h.spelled);
  clean = clean-closed h.clean;
}

operand-again : (t : Tree) → AreAgain t → Again IsQuery tree_lexemes t → Again IsTerm operand_lexemes t
operand-again (Block b) h k = record { spelled = single h.spelled; clean = h.clean }
operand-again (Union left right) h k = let again = in_parentheses-again (Union left right) k in record { spelled = again.spelled; clean = again.clean }
operand-again (Except left right) h k = let again = in_parentheses-again (Except left right) k in record { spelled = again.spelled; clean = again.clean }

tree-again : (t : Tree) → AreAgain t → Again IsQuery tree_lexemes t
tree-again (Block b) h = record { spelled = term (single h.spelled); clean = h.clean }
tree-again (Union left right) h =
    let left_again = tree-again left h.0 in
    let right_again = operand-again right h.1 (tree-again right h.1) in
    record {
      spelled = subst (λ a. IsQuery a (Union left right)) (sym (map-append symbol (tree_lexemes left) (keyword (codes "UNION") ∷ operand_lexemes right)))
          (union left_again.spelled right_again.spelled);
      clean = clean-append left_again.clean (clean-keyword (codes "UNION") refl right_again.clean);
    }
tree-again (Except left right) h =
    let left_again = tree-again left h.0 in
    let right_again = operand-again right h.1 (tree-again right h.1) in
    record {
      spelled = subst (λ a. IsQuery a (Except left right)) (sym (map-append symbol (tree_lexemes left) (keyword (codes "EXCEPT") ∷ operand_lexemes right)))
          (except left_again.spelled right_again.spelled);
      clean = clean-append left_again.clean (clean-keyword (codes "EXCEPT") refl right_again.clean);
    }

pub query-again : {a : List Symbol} {t : Tree} → IsQuery a t → AreLexical a → Again IsQuery tree_lexemes t
query-again {a} {t} h l = tree-again t (query-blocks a t h l)
