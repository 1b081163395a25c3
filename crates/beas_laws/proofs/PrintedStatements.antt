-- The lexemes of a statement spell it again.
use Rattle.std.proofs.Common.{◌≡◌, ℕ, false, List, [], ◌∷◌, ◌++◌, refl, sym, ap, subst, ◌∙◌, append_assoc}
use Rattle.std.specs.Prelude.{codes, map}
use Rattle.std.proofs.lemmas.List.{map-append}
use Rattle.beas_core.specs.declared.schema.AccessSpec.{AccessSpec}
use Rattle.beas_core.specs.declared.schema.Column.{Column}
use Rattle.sql_text.specs.declared.tree.ColumnRef.{ColumnRef}
use Rattle.sql_text.specs.declared.tree.GroupItem.{GroupItem}
use Rattle.sql_text.specs.declared.tree.GroupItem.TheVariants.{Count, Sum, Least, Greatest}
use Rattle.sql_text.specs.declared.tree.Literal.{Literal}
use Rattle.sql_text.specs.declared.tree.Statement.{Statement}
use Rattle.sql_text.specs.declared.tree.Statement.TheVariants.{CreateTable, CreateAccess, Insert, DiscoverGroup, Grouped}
use Rattle.sql_text.specs.Canonical.{Lexeme, keyword, sign, names_of, comma_list, in_parentheses, column_of, tuple_of, ref_of, group_item_of, limit_of, lexemes_of}
use Rattle.sql_text.specs.Symbols.{Symbol, word, number}
use Rattle.sql_text.specs.Trees.{Tree, Block}
use Rattle.sql_text.specs.Grouping.{grouped_block}
use Rattle.sql_text.specs.Grammar.{Commas, IsId, id, IsMaybeIds, IsColumn, IsTuple, IsRef, Body, IsBody, IsGroupItem, shared, counted, summed, least, greatest, Spells, create_table, create_access, drop_access, load, insert, delete, discover_group, discover_pairs, grouped, over_query, IsOverQuery, select, explain, scan_ok, specialise, wants_distinct}
use Rattle.sql_text.specs.Words.{ACCESS, BY, CLOSE, COUNT, CREATE, DISCOVER, DISTINCT, FETCH, GROUP, LIMIT, MAX, MIN, ON, OPEN, SELECT, SUM, TABLE}
use Rattle.beas_laws.proofs.Clean.{symbol, AreClean, none, name_then, digits_then, content_then, clean-append}
use Rattle.beas_laws.proofs.Lexicals.{IsNameText, IsDigitText, IsLexical, AreLexical, front, back}
use Rattle.beas_laws.proofs.PrintedParts.{Again, clean-keyword, closed, clean-closed, commas-again, ids-again, maybe_ids-again, column-again, tuple-again, ref-again}
use Rattle.beas_laws.proofs.PrintedConditions.{where-again, where_again}
use Rattle.beas_laws.proofs.PrintedQueries.{body_lexemes, body-again, block-again, query-again}

-- key and fetched names
key-shape : (ks fs : List Lexeme) → map symbol ((ks ++ sign (codes ")") ∷ []) ++ keyword (codes "FETCH") ∷ in_parentheses fs)
    ≡ (map symbol ks ++ CLOSE ∷ FETCH ∷ OPEN ∷ map symbol fs) ++ CLOSE ∷ []
key-shape ks fs =
    map-append symbol (ks ++ sign (codes ")") ∷ []) (keyword (codes "FETCH") ∷ in_parentheses fs)
    ∙ ap (λ a. a ++ FETCH ∷ OPEN ∷ map symbol (fs ++ sign (codes ")") ∷ [])) (closed ks)
    ∙ append_assoc (map symbol ks) (CLOSE ∷ []) (FETCH ∷ OPEN ∷ map symbol (fs ++ sign (codes ")") ∷ []))
    ∙ ap (λ a. map symbol ks ++ CLOSE ∷ FETCH ∷ OPEN ∷ a) (closed fs)
    ∙ sym (append_assoc (map symbol ks) (CLOSE ∷ FETCH ∷ OPEN ∷ map symbol fs) (CLOSE ∷ []))

access-shape : (ks fs : List Lexeme) (limit : List ℕ) → map symbol
    (((ks ++ sign (codes ")") ∷ []) ++ keyword (codes "FETCH") ∷ in_parentheses fs) ++ limit_of limit)
    ≡ (map symbol ks ++ CLOSE ∷ FETCH ∷ OPEN ∷ map symbol fs) ++ CLOSE ∷ LIMIT ∷ number limit ∷ []
access-shape ks fs limit =
    map-append symbol ((ks ++ sign (codes ")") ∷ []) ++ keyword (codes "FETCH") ∷ in_parentheses fs) (limit_of limit)
    ∙ ap (λ a. a ++ LIMIT ∷ number limit ∷ []) (key-shape ks fs)
    ∙ append_assoc (map symbol ks ++ CLOSE ∷ FETCH ∷ OPEN ∷ map symbol fs) (CLOSE ∷ []) (LIMIT ∷ number limit ∷ [])

clean-key : {ks fs : List Lexeme} → AreClean ks → AreClean fs → AreClean (in_parentheses ks ++ keyword (codes "FETCH") ∷ in_parentheses fs)
clean-key k f = clean-append (clean-closed k) (clean-keyword (codes "FETCH") refl (clean-closed f))

clean-limit : (limit : List ℕ) → IsDigitText limit → AreClean (limit_of limit)
clean-limit limit h = clean-keyword (codes "LIMIT") refl (digits_then h none)

abbrev SpellsAgain : Statement → Type 0
SpellsAgain statement = Again Spells lexemes_of statement

table-again : (n : List ℕ) (b : List Symbol) (cs : List Column) → IsId (word n ∷ []) n → IsNameText n → Commas IsColumn b cs → AreLexical b
    → SpellsAgain (CreateTable n cs)
table-again n b cs i h columns l =
    let again : Again (Commas IsColumn) (comma_list column_of) cs = commas-again column-again columns l in
    record {
      spelled = subst (λ a. Spells (CREATE ∷ TABLE ∷ word n ∷ OPEN ∷ a) (CreateTable n cs)) (sym (closed (comma_list column_of cs)))
          (create_table i again.spelled);
      clean = clean-keyword (codes "CREATE") refl (clean-keyword (codes "TABLE") refl (name_then h (clean-closed again.clean)));
    }

access-again : (n t limit : List ℕ) (key fetched : List (List ℕ)) → IsId (word n ∷ []) n → IsId (word t ∷ []) t → IsNameText n → IsNameText t
    → IsDigitText limit → Again IsMaybeIds names_of key → Again (Commas IsId) names_of fetched
    → SpellsAgain (CreateAccess (record { name = n; table = t; key = key; fetched = fetched; limit = limit }))
access-again n t limit key fetched i j h k digits_text key_again fetched_again =
    let spec : AccessSpec = record { name = n; table = t; key = key; fetched = fetched; limit = limit } in
    record {
      spelled = subst (λ a. Spells (CREATE ∷ ACCESS ∷ word n ∷ ON ∷ word t ∷ OPEN ∷ a) (CreateAccess spec))
          (sym (access-shape (names_of key) (names_of fetched) limit))
          (create_access i j key_again.spelled fetched_again.spelled);
      clean = clean-keyword (codes "CREATE") refl (clean-keyword (codes "ACCESS") refl (name_then h (clean-keyword (codes "ON") refl (name_then k
          (clean-append (clean-key key_again.clean fetched_again.clean) (clean-limit limit digits_text))))));
    }

group-again : (t : List ℕ) (key fetched : List (List ℕ)) → IsId (word t ∷ []) t → IsNameText t → Again IsMaybeIds names_of key
    → Again (Commas IsId) names_of fetched → SpellsAgain (DiscoverGroup t key fetched)
group-again t key fetched i h key_again fetched_again = record {
  spelled = subst (λ a. Spells (DISCOVER ∷ word t ∷ OPEN ∷ a) (DiscoverGroup t key fetched)) (sym (key-shape (names_of key) (names_of fetched)))
      (discover_group i key_again.spelled fetched_again.spelled);
  clean = clean-keyword (codes "DISCOVER") refl (name_then h (clean-key key_again.clean fetched_again.clean));
}

insert-again : (t : List ℕ) (b : List Symbol) (rows : List (List Literal)) → IsId (word t ∷ []) t → IsNameText t → Commas IsTuple b rows → AreLexical b
    → SpellsAgain (Insert t rows)
insert-again t b rows i h tuples l =
    let again : Again (Commas IsTuple) (comma_list tuple_of) rows = commas-again tuple-again tuples l in
    record {
      spelled = insert i again.spelled;
      clean = clean-keyword (codes "INSERT") refl
          (clean-keyword (codes "INTO") refl (name_then h (clean-keyword (codes "VALUES") refl again.clean)));
    }

over-again : {a : List Symbol} {t : Tree} {s : Statement} → IsOverQuery a t s → wants_distinct t ≡ false → AreLexical a → SpellsAgain s
over-again (select h) e l = let again = query-again h l in record { spelled = over_query (select again.spelled) e; clean = again.clean }
over-again (explain h) e l = let again = query-again h l.1 in
    record { spelled = over_query (explain again.spelled) e; clean = clean-keyword (codes "EXPLAIN") refl again.clean }
over-again (scan_ok h) e l = let again = query-again h l.1.1 in record {
  spelled = over_query (scan_ok again.spelled) e;
  clean = clean-keyword (codes "SCAN") refl (clean-keyword (codes "OK") refl again.clean);
}
over-again (specialise {a} {b} h) e l = let again = block-again a b h l.1 in
    record { spelled = over_query (specialise again.spelled) e; clean = clean-keyword (codes "SPECIALISE") refl again.clean }

-- ---- grouped statements

counted-again : (a : List Symbol) (r : ColumnRef) → IsRef a r → AreLexical a → Again IsGroupItem group_item_of (Count r)
counted-again a r h l = let again = ref-again a r h l in record {
  spelled = subst (λ b. IsGroupItem (COUNT ∷ OPEN ∷ DISTINCT ∷ b) (Count r)) (sym (closed (ref_of r))) (counted again.spelled);
  clean = clean-keyword (codes "COUNT") refl (clean-closed (clean-keyword (codes "DISTINCT") refl again.clean));
}

summed-again : (a : List Symbol) (r : ColumnRef) → IsRef a r → AreLexical a → Again IsGroupItem group_item_of (Sum r)
summed-again a r h l = let again = ref-again a r h l in record {
  spelled = subst (λ b. IsGroupItem (SUM ∷ OPEN ∷ DISTINCT ∷ b) (Sum r)) (sym (closed (ref_of r))) (summed again.spelled);
  clean = clean-keyword (codes "SUM") refl (clean-closed (clean-keyword (codes "DISTINCT") refl again.clean));
}

least-again : (a : List Symbol) (r : ColumnRef) → IsRef a r → AreLexical a → Again IsGroupItem group_item_of (Least r)
least-again a r h l = let again = ref-again a r h l in record {
  spelled = subst (λ b. IsGroupItem (MIN ∷ OPEN ∷ b) (Least r)) (sym (closed (ref_of r))) (least again.spelled);
  clean = clean-keyword (codes "MIN") refl (clean-closed again.clean);
}

greatest-again : (a : List Symbol) (r : ColumnRef) → IsRef a r → AreLexical a → Again IsGroupItem group_item_of (Greatest r)
greatest-again a r h l = let again = ref-again a r h l in record {
  spelled = subst (λ b. IsGroupItem (MAX ∷ OPEN ∷ b) (Greatest r)) (sym (closed (ref_of r))) (greatest again.spelled);
  clean = clean-keyword (codes "MAX") refl (clean-closed again.clean);
}

group_item-again : (a : List Symbol) (i : GroupItem) → IsGroupItem a i → AreLexical a → Again IsGroupItem group_item_of i
group_item-again a i (shared {r = r} h) l = let again = ref-again a r h l in record { spelled = shared again.spelled; clean = again.clean }
group_item-again a i (counted {a = x} {r = r} h) l = counted-again x r h (front IsLexical x (CLOSE ∷ []) l.1.1.1)
group_item-again a i (summed {a = x} {r = r} h) l = summed-again x r h (front IsLexical x (CLOSE ∷ []) l.1.1.1)
group_item-again a i (least {a = x} {r = r} h) l = least-again x r h (front IsLexical x (CLOSE ∷ []) l.1.1)
group_item-again a i (greatest {a = x} {r = r} h) l = greatest-again x r h (front IsLexical x (CLOSE ∷ []) l.1.1)

grouped-shape : (i b k : List Lexeme) → map symbol (keyword (codes "SELECT") ∷ i ++ b ++ keyword (codes "GROUP") ∷ keyword (codes "BY") ∷ k)
    ≡ SELECT ∷ map symbol i ++ map symbol b ++ GROUP ∷ BY ∷ map symbol k
grouped-shape i b k =
    map-append symbol (keyword (codes "SELECT") ∷ i ++ b) (keyword (codes "GROUP") ∷ keyword (codes "BY") ∷ k)
    ∙ ap (λ t. (SELECT ∷ t) ++ GROUP ∷ BY ∷ map symbol k) (map-append symbol i b)

grouped-again : (items : List GroupItem) (body : Body) (keys : List ColumnRef) → Again (Commas IsGroupItem) (comma_list group_item_of) items
    → Again IsBody body_lexemes body → Again (Commas IsRef) (comma_list ref_of) keys
    → SpellsAgain (Grouped items keys (Block (grouped_block items keys body.0 body.1)))
grouped-again items body keys items_again body_again keys_again = record {
  spelled = subst (λ a. Spells a (Grouped items keys (Block (grouped_block items keys body.0 body.1))))
      (sym (grouped-shape (comma_list group_item_of items) (body_lexemes body) (comma_list ref_of keys)))
      (grouped items_again.spelled body_again.spelled keys_again.spelled);
  clean = clean-append (clean-append (clean-keyword (codes "SELECT") refl items_again.clean) body_again.clean)
      (clean-keyword (codes "GROUP") refl (clean-keyword (codes "BY") refl keys_again.clean));
}

-- The lexemes of a statement that lexical tokens spell.
pub statement-again : (a : List Symbol) (s : Statement) → Spells a s → AreLexical a → Again Spells lexemes_of s
statement-again a s (create_table {b = b} {n = n} {cs = cs} (id r) h) l = table-again n b cs (id r) l.1.1.0 h (front IsLexical b (CLOSE ∷ []) l.1.1.1.1)
statement-again a s (create_access {c = c} {d = d} {n = n} {t = t} {limit = limit} {key = key} {fetched = fetched} (id p) (id q) h k) l =
    let ahead = front IsLexical (c ++ CLOSE ∷ FETCH ∷ OPEN ∷ d) (CLOSE ∷ LIMIT ∷ number limit ∷ []) l.1.1.1.1.1.1 in
    access-again n t limit key fetched (id p) (id q) l.1.1.0 l.1.1.1.1.0
    (back IsLexical (c ++ CLOSE ∷ FETCH ∷ OPEN ∷ d) (CLOSE ∷ LIMIT ∷ number limit ∷ []) l.1.1.1.1.1.1).1.1.0
    (maybe_ids-again h (front IsLexical c (CLOSE ∷ FETCH ∷ OPEN ∷ d) ahead)) (ids-again k (back IsLexical c (CLOSE ∷ FETCH ∷ OPEN ∷ d) ahead).1.1.1)
statement-again a s (drop_access (id r)) l = record {
  spelled = drop_access (id r);
  clean = clean-keyword (codes "DROP") refl (clean-keyword (codes "ACCESS") refl (name_then l.1.1.0 none));
}
statement-again a s (load (id r)) l = record {
  spelled = load (id r);
  clean = clean-keyword (codes "LOAD") refl (name_then l.1.0 (clean-keyword (codes "FROM") refl (content_then none)));
}
statement-again a s (insert {b = b} {t = t} {rows = rows} (id r) h) l = insert-again t b rows (id r) l.1.1.0 h l.1.1.1.1
statement-again a s (delete {b = b} {cs = cs} (id r) w) l =
    let again = where_again cs (where-again b cs w l.1.1.1) in
    record {
      spelled = delete (id r) again.spelled;
      clean = clean-keyword (codes "DELETE") refl
          (clean-keyword (codes "FROM") refl (name_then l.1.1.0 again.clean));
    }
statement-again a s (discover_group {b = b} {c = c} {t = t} {key = key} {fetched = fetched} (id r) h k) l =
    let ahead = front IsLexical (b ++ CLOSE ∷ FETCH ∷ OPEN ∷ c) (CLOSE ∷ []) l.1.1.1 in
    group-again t key fetched (id r) l.1.0 (maybe_ids-again h (front IsLexical b (CLOSE ∷ FETCH ∷ OPEN ∷ c) ahead))
    (ids-again k (back IsLexical b (CLOSE ∷ FETCH ∷ OPEN ∷ c) ahead).1.1.1)
statement-again a s (discover_pairs {limit = limit} (id r)) l = record
    { spelled = discover_pairs (id r); clean = clean-keyword (codes "DISCOVER") refl (name_then l.1.0 (clean-limit limit l.1.1.1.0)) }
statement-again a s (grouped {a = x} {b = y} {c = z} {items = items} {body = body} {keys = keys} i k h) l =
    let ahead = front IsLexical (x ++ y) (GROUP ∷ BY ∷ z) l.1 in
    let behind = back IsLexical (x ++ y) (GROUP ∷ BY ∷ z) l.1 in
    grouped-again items body keys (commas-again group_item-again i (front IsLexical x y ahead)) (body-again y body k (back IsLexical x y ahead))
    (commas-again ref-again h behind.1.1)
statement-again a s (over_query o e) l = over-again o e l
