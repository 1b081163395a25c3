-- Grouped statements that are read are spelled so.
use Rattle.std.proofs.Common.{◌≡◌, true, List, [], ◌∷◌, ◌++◌, length, Option, Some, cond, refl, sym, ap, subst, inl, inr, ◌∙◌, append_assoc}
use Rattle.sql_text.specs.declared.tree.ColumnRef.{ColumnRef}
use Rattle.sql_text.specs.declared.tree.GroupItem.{GroupItem}
use Rattle.sql_text.specs.declared.tree.GroupItem.TheVariants.{Plain, Count, Sum, Least, Greatest}
use Rattle.sql_text.specs.declared.tree.Statement.{Statement}
use Rattle.sql_text.specs.Symbols.{Symbol}
use Rattle.sql_text.specs.Grammar.{Commas, IsRef, IsGroupItem, shared, counted, summed, least, greatest, Spells, grouped}
use Rattle.sql_text.specs.Words.{BY, COUNT, DISTINCT, GROUP, MAX, MIN, SELECT, SUM, OPEN, CLOSE}
use Rattle.token_reader.specs.Reading.{expect, begins_with, after_all, rest_of}
use Rattle.sql_parser.specs.Reading.{read_list, read_ref, read_body, read_closed_ref, read_distinct_ref, made_of, read_group_item, read_group_keys, read_grouped}
use Rattle.sql_parser.proofs.ReadIsSpelled.{Took, then_parts, bind-inv, pick-inv, took_as, begins-inv, expect-inv, closed-inv, commas-spelled, ref-spelled}
use Rattle.sql_parser.proofs.QueryIsSpelled.{body-spelled}

abbrev Closed : List Symbol → ColumnRef → Type 0
Closed a r = (b : List Symbol) × (a ≡ b ++ CLOSE ∷ []) × IsRef b r

closed-spelled : (tokens : List Symbol) (r : ColumnRef) (rest : List Symbol) → read_closed_ref tokens ≡ Some (r, rest) → Took Closed tokens r rest
closed-spelled tokens r rest e =
    let t = ref-spelled tokens r (CLOSE ∷ rest) (closed-inv (read_ref tokens) r rest e) in
    record {
      front = t.front ++ CLOSE ∷ [];
      parts = t.parts ∙ sym (append_assoc t.front (CLOSE ∷ []) rest);
      spelled = (t.front, refl, t.spelled);
    }

abbrev Distinct : List Symbol → ColumnRef → Type 0
Distinct a r = (b : List Symbol) × (a ≡ DISTINCT ∷ b ++ CLOSE ∷ []) × IsRef b r

distinct-spelled : (tokens : List Symbol) (r : ColumnRef) (rest : List Symbol) → read_distinct_ref tokens ≡ Some (r, rest) → Took Distinct tokens r rest
unfolding read_distinct_ref
distinct-spelled tokens r rest e =
    let a = bind-inv (expect DISTINCT tokens) _ (r, rest) e in
    let t = closed-spelled a.0 r rest a.2 in
    record {
      front = DISTINCT ∷ t.front;
      parts = expect-inv DISTINCT tokens a.0 a.1 ∙ ap (λ u. DISTINCT ∷ u) t.parts;
      spelled = (t.spelled.0, ap (λ u. DISTINCT ∷ u) t.spelled.1, t.spelled.2);
    }

-- ---- items

counted-of : (a : List Symbol) (r : ColumnRef) → Distinct a r → IsGroupItem (COUNT ∷ OPEN ∷ a) (Count r)
counted-of a r d = subst (λ u. IsGroupItem (COUNT ∷ OPEN ∷ u) (Count r)) (sym d.1) (counted d.2)

summed-of : (a : List Symbol) (r : ColumnRef) → Distinct a r → IsGroupItem (SUM ∷ OPEN ∷ a) (Sum r)
summed-of a r d = subst (λ u. IsGroupItem (SUM ∷ OPEN ∷ u) (Sum r)) (sym d.1) (summed d.2)

least-of : (a : List Symbol) (r : ColumnRef) → Closed a r → IsGroupItem (MIN ∷ OPEN ∷ a) (Least r)
least-of a r d = subst (λ u. IsGroupItem (MIN ∷ OPEN ∷ u) (Least r)) (sym d.1) (least d.2)

greatest-of : (a : List Symbol) (r : ColumnRef) → Closed a r → IsGroupItem (MAX ∷ OPEN ∷ a) (Greatest r)
greatest-of a r d = subst (λ u. IsGroupItem (MAX ∷ OPEN ∷ u) (Greatest r)) (sym d.1) (greatest d.2)

-- a function, and what stands after its parenthesis
function-spelled : (Inside : List Symbol → ColumnRef → Type 0) (function : Symbol) (item : ColumnRef → GroupItem)
    → ((a : List Symbol) (r : ColumnRef) → Inside a r → IsGroupItem (function ∷ OPEN ∷ a) (item r))
    → (read : List Symbol → Option (ColumnRef × List Symbol))
    → ((tokens : List Symbol) (r : ColumnRef) (rest : List Symbol) → read tokens ≡ Some (r, rest) → Took Inside tokens r rest)
    → (tokens : List Symbol) (i : GroupItem) (rest : List Symbol) → begins_with (function ∷ OPEN ∷ []) tokens ≡ true
    → made_of item (read (rest_of (rest_of tokens))) ≡ Some (i, rest) → Took IsGroupItem tokens i rest
unfolding after_all
function-spelled Inside function item make read spelled tokens i rest b e =
    let a = bind-inv (read (rest_of (rest_of tokens))) _ (i, rest) e in
    let t = spelled (rest_of (rest_of tokens)) a.0.0 a.0.1 a.1 in
    took_as (record {
      front = function ∷ OPEN ∷ t.front;
      parts = begins-inv (function ∷ OPEN ∷ []) tokens b ∙ ap (λ u. function ∷ OPEN ∷ u) t.parts;
      spelled = make t.front a.0.0 t.spelled;
    }) a.2

plain-spelled : (tokens : List Symbol) (i : GroupItem) (rest : List Symbol) → made_of Plain (read_ref tokens) ≡ Some (i, rest) → Took IsGroupItem tokens i rest
plain-spelled tokens i rest e =
    let a = bind-inv (read_ref tokens) _ (i, rest) e in
    let t = ref-spelled tokens a.0.0 a.0.1 a.1 in
    took_as (record { front = t.front; parts = t.parts; spelled = shared t.spelled }) a.2

abbrev from_max : List Symbol → Option (GroupItem × List Symbol)
from_max tokens = cond (begins_with (MAX ∷ OPEN ∷ []) tokens) (made_of Greatest (read_closed_ref (rest_of (rest_of tokens)))) (made_of Plain (read_ref tokens))

abbrev from_min : List Symbol → Option (GroupItem × List Symbol)
from_min tokens = cond (begins_with (MIN ∷ OPEN ∷ []) tokens) (made_of Least (read_closed_ref (rest_of (rest_of tokens)))) (from_max tokens)

abbrev from_sum : List Symbol → Option (GroupItem × List Symbol)
from_sum tokens = cond (begins_with (SUM ∷ OPEN ∷ []) tokens) (made_of Sum (read_distinct_ref (rest_of (rest_of tokens)))) (from_min tokens)

max-spelled : (tokens : List Symbol) (i : GroupItem) (rest : List Symbol) → from_max tokens ≡ Some (i, rest) → Took IsGroupItem tokens i rest
max-spelled tokens i rest e =
    elim (pick-inv (begins_with (MAX ∷ OPEN ∷ []) tokens) (made_of Greatest (read_closed_ref (rest_of (rest_of tokens)))) (made_of Plain (read_ref tokens))
    (Some (i, rest)) e) [
      | inl k ↦ function-spelled Closed MAX Greatest greatest-of read_closed_ref closed-spelled tokens i rest k.0 k.1
      | inr k ↦ plain-spelled tokens i rest k.1
    ]

min-spelled : (tokens : List Symbol) (i : GroupItem) (rest : List Symbol) → from_min tokens ≡ Some (i, rest) → Took IsGroupItem tokens i rest
min-spelled tokens i rest e =
    elim (pick-inv (begins_with (MIN ∷ OPEN ∷ []) tokens) (made_of Least (read_closed_ref (rest_of (rest_of tokens)))) (from_max tokens) (Some (i, rest)) e) [
      | inl k ↦ function-spelled Closed MIN Least least-of read_closed_ref closed-spelled tokens i rest k.0 k.1
      | inr k ↦ max-spelled tokens i rest k.1
    ]

sum-spelled : (tokens : List Symbol) (i : GroupItem) (rest : List Symbol) → from_sum tokens ≡ Some (i, rest) → Took IsGroupItem tokens i rest
sum-spelled tokens i rest e =
    elim (pick-inv (begins_with (SUM ∷ OPEN ∷ []) tokens) (made_of Sum (read_distinct_ref (rest_of (rest_of tokens)))) (from_min tokens) (Some (i, rest)) e) [
      | inl k ↦ function-spelled Distinct SUM Sum summed-of read_distinct_ref distinct-spelled tokens i rest k.0 k.1
      | inr k ↦ min-spelled tokens i rest k.1
    ]

item-spelled : (tokens : List Symbol) (i : GroupItem) (rest : List Symbol) → read_group_item tokens ≡ Some (i, rest) → Took IsGroupItem tokens i rest
unfolding read_group_item
item-spelled tokens i rest e =
    elim (pick-inv (begins_with (COUNT ∷ OPEN ∷ []) tokens) (made_of Count (read_distinct_ref (rest_of (rest_of tokens)))) (from_sum tokens) (Some (i, rest)) e) [
      | inl k ↦ function-spelled Distinct COUNT Count counted-of read_distinct_ref distinct-spelled tokens i rest k.0 k.1
      | inr k ↦ sum-spelled tokens i rest k.1
    ]

-- ---- statements

keys-spelled : (tokens : List Symbol) (ks : List ColumnRef) (rest : List Symbol) → read_group_keys tokens ≡ Some (ks, rest)
    → (a : List Symbol) × (tokens ≡ (GROUP ∷ BY ∷ a) ++ rest) × Commas IsRef a ks
unfolding read_group_keys
keys-spelled tokens ks rest e =
    let g = bind-inv (expect GROUP tokens) _ (ks, rest) e in
    let b = bind-inv (expect BY g.0) _ (ks, rest) g.2 in
    let t = commas-spelled IsRef read_ref ref-spelled (length b.0) b.0 ks rest b.2 in
    (t.front, expect-inv GROUP tokens g.0 g.1 ∙ ap (λ u. GROUP ∷ u) (expect-inv BY g.0 b.0 b.1 ∙ ap (λ u. BY ∷ u) t.parts), t.spelled)

pub grouped-spelled : (tokens : List Symbol) (s : Statement) (rest : List Symbol) → read_grouped tokens ≡ Some (s, rest) → Took Spells tokens s rest
unfolding read_grouped
grouped-spelled tokens s rest e =
    let a = bind-inv (expect SELECT tokens) _ (s, rest) e in
    let i = bind-inv (read_list read_group_item a.0) _ (s, rest) a.2 in
    let t = commas-spelled IsGroupItem read_group_item item-spelled (length a.0) a.0 i.0.0 i.0.1 i.1 in
    let b = bind-inv (read_body i.0.1) _ (s, rest) i.2 in
    let u = body-spelled i.0.1 b.0.0 b.0.1 b.1 in
    let k = bind-inv (read_group_keys b.0.1) _ (s, rest) b.2 in
    let v = keys-spelled b.0.1 k.0.0 k.0.1 k.1 in
    let items = expect-inv SELECT tokens a.0 a.1 ∙ ap (λ w. SELECT ∷ w) t.parts in
    took_as (record {
      front = SELECT ∷ t.front ++ u.front ++ GROUP ∷ BY ∷ v.0;
      parts = then_parts (SELECT ∷ t.front ++ u.front) (GROUP ∷ BY ∷ v.0) k.0.1 (then_parts (SELECT ∷ t.front) u.front b.0.1 items u.parts) v.1;
      spelled = grouped t.spelled u.spelled v.2;
    }) k.2
