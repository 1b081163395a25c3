-- A catalogue's look-ups stay in step with its lists when a table or a constraint is made, and when a constraint is dropped.
use Rattle.std.proofs.Common.{◌≡◌, ◌≢◌, ◌∙◌, ◌<◌, ◌+◌, ◌==◌, ℕ, suc, Bool, true, false, not, cond, List, [], ◌∷◌, ◌++◌, map, length, get_or, set, ap, refl, sym, subst, arith, Option, Some, None, true≢false, inl, inr, length-append, length-set}
use Rattle.std.specs.Prelude.{filter, find, option_map, remove, All, position}
use Rattle.std.specs.List.{list_any}
use Rattle.std.specs.Option.{option_or}
use Rattle.std.specs.Str.{bytes_eq}
use Rattle.std.proofs.Math.Seq.{get_or-append_seam}
use Rattle.std.proofs.Math.ListN.{get_or-append}
use Rattle.std.proofs.lemmas.Bool.{eq-eqb, ne_eqb, cases_eq, cases_order, false_from_ne_true}
use Rattle.std.proofs.lemmas.List.{get_or-set_same, get_or-set_other, map-append, append-nil, get_or_default}
use Rattle.std.proofs.lemmas.List.Elements.{All-push, All-filter, filter-append}
use Rattle.std.proofs.lemmas.List.Kept.{AllPairs-filter}
use Rattle.std.proofs.lemmas.List.Quantifiers.{all_pairs_push}
use Rattle.std.proofs.lemmas.List.Folds.{find-append, list_any_at}
use Rattle.std.proofs.lemmas.Slice.Eq.{bytes_eq-Decides}
use Rattle.beas_core.specs.declared.schema.Access.{Access}
use Rattle.beas_core.specs.declared.schema.AccessId.{AccessId}
use Rattle.beas_core.specs.declared.schema.TableId.{TableId}
use Rattle.beas_core.specs.Shapes.{AccessIsWellFormed}
use Rattle.catalogue.specs.declared.tables.TableSchema.{TableSchema}
use Rattle.catalogue.specs.Schema.{Schema, SchemaIsSound, TableIsSound, AccessIsSound, no_table, access_with_id, access_has_name, has_access, schema_with_access, schema_without_access}
use Rattle.catalogue.specs.Kept.{IsKept, MayMakeTable, MayMakeAccess, ids_on, id_of_access_named}
use Rattle.catalogue.proofs.ListFacts.{is_some-find, none_from_map, none_from_is_some, position_none, position-push, option_or-none, filter_none, filter_but_one, filter_skips, find_skips, find_filtered, find_none, find_some, some_from_map, one_place}

pub same_name : (a b : List ℕ) → bytes_eq a b ≡ true → a ≡ b
same_name a b e = (bytes_eq-Decides a b).0 e

pub other_name : (a b : List ℕ) → bytes_eq a b ≡ false → a ≢ b
other_name a b e s = true≢false (sym ((bytes_eq-Decides a b).1 s) ∙ e)

on_table : ℕ → Access → Bool
on_table table a = a.table.0 == table

abbrev with : Schema → TableSchema → Schema
with schema table = record schema { tables = schema.tables ++ table ∷ [] }

-- a constraint stays one of its table when a further table is made
access_stays : (schema : Schema) (table : TableSchema) (a : Access) → AccessIsSound schema a → AccessIsSound (with schema table) a
access_stays schema table a s = record {
  table = omega (arith, s.table, length-append schema.tables (table ∷ []));
  form = subst (λ t. AccessIsWellFormed (length t.columns) a) (sym (get_or-append schema.tables (table ∷ []) no_table a.table.0 s.table)) s.form;
  id = s.id;
}

pub sound_with_table : (schema : Schema) (table : TableSchema) → MayMakeTable schema table → SchemaIsSound schema → SchemaIsSound (with schema table)
sound_with_table schema table may s =
    let others : All (λ t. bytes_eq t.name table.name ≡ false) schema.tables =
    position_none (λ t. bytes_eq t.name table.name) schema.tables
    (none_from_map (λ (i : ℕ). let id : TableId = record { 0 = i } in id) (position (λ t. bytes_eq t.name table.name) schema.tables) may.free) in
    record {
      few_tables = omega (arith, may.room, length-append schema.tables (table ∷ []));
      few_created = s.few_created;
      tables = All-push TableIsSound schema.tables table s.tables may.sound;
      table_names_once = all_pairs_push (λ t u. t.name ≢ u.name) schema.tables table s.table_names_once
          (λ k d l. other_name (get_or schema.tables k d).name table.name (others k d l));
      accesses = λ k d l. access_stays schema table (get_or schema.accesses k d) (s.accesses k d l);
      access_names_once = s.access_names_once;
      ids_rise = s.ids_rise;
    }

pub kept_with_table : (schema : Schema) (table : TableSchema) (tn tn' ai : List ℕ → Option ℕ) (bt : List (List AccessId)) → MayMakeTable schema table
    → IsKept schema tn ai bt
    → ((q : List ℕ) → tn' q ≡ cond (bytes_eq table.name q) (Some (length schema.tables)) (tn q)) → IsKept (with schema table) tn' ai (bt ++ [] ∷ [])
kept_with_table schema table tn tn' ai bt may k names = record {
  sound = sound_with_table schema table may k.sound;
  tables_by_name = λ q. names q ∙ ap (cond (bytes_eq table.name q) (Some (length schema.tables))) (k.tables_by_name q) ∙ by q (bytes_eq table.name q) refl
      ∙ sym (position-push (λ t. bytes_eq t.name q) schema.tables table);
  accesses_by_name = k.accesses_by_name;
  table_count = length-append bt ([] ∷ []) ∙ ap (λ n. n + 1) k.table_count ∙ sym (length-append schema.tables (table ∷ []));
  ids_by_table = ids;
}
  where
    free : position (λ t. bytes_eq t.name table.name) schema.tables ≡ None
    free = none_from_map (λ (i : ℕ). let id : TableId = record { 0 = i } in id) (position (λ t. bytes_eq t.name table.name) schema.tables) may.free

    by : (q : List ℕ) (b : Bool) → bytes_eq table.name q ≡ b
        → cond (bytes_eq table.name q) (Some (length schema.tables)) (position (λ t. bytes_eq t.name q) schema.tables)
        ≡ option_or (position (λ t. bytes_eq t.name q) schema.tables) (cond (bytes_eq table.name q) (Some (length schema.tables)) None)
    by q true e =
        rw e (sym (ap (λ o. option_or o (Some (length schema.tables)))
        (subst (λ n. position (λ t. bytes_eq t.name n) schema.tables ≡ None) (same_name table.name q e) free)))
    by q false e = rw e (sym (option_or-none (position (λ t. bytes_eq t.name q) schema.tables)))

    ids : (n : ℕ) → n < length (bt ++ [] ∷ []) → get_or (bt ++ [] ∷ []) n [] ≡ ids_on schema.accesses n
    ids n h = elim (cases_eq n (length bt)) [
      | inl s ↦ ap (λ m. get_or (bt ++ [] ∷ []) m []) s ∙ get_or-append_seam bt [] [] []
          ∙ sym (ap (map (λ a. a.id)) (filter_none (λ a. a.table.0 == n) schema.accesses
          (λ i d l. ne_eqb _ _ (λ e. absurd (omega (arith, e, s, k.table_count, (k.sound.accesses i d l).table))))))
      | inr m ↦ let l : n < length bt = omega (arith, h, m, length-append bt ([] ∷ [])) in get_or-append bt ([] ∷ []) [] n l ∙ k.ids_by_table n l
    ]

-- a constraint's name is free where no live one has it
none_named : (schema : Schema) (name : List ℕ) → has_access schema name ≡ false → find (access_has_name name) schema.accesses ≡ None
none_named schema name e = none_from_is_some (find (access_has_name name) schema.accesses) (is_some-find (access_has_name name) schema.accesses ∙ e)

pub sound_with_access : (schema : Schema) (access : Access) → MayMakeAccess schema access → SchemaIsSound schema
    → SchemaIsSound (schema_with_access schema access)
sound_with_access schema access may s =
    let others = find_none (access_has_name access.name) schema.accesses (none_named schema access.name may.free) in
    let own : AccessIsSound (schema_with_access schema access) access = record { table = may.table; form = may.form; id = omega (arith, may.id) } in
    record {
      few_tables = s.few_tables;
      few_created = omega (arith, may.room);
      tables = s.tables;
      table_names_once = s.table_names_once;
      accesses = All-push (AccessIsSound (schema_with_access schema access)) schema.accesses access
          (λ k d l. let old = s.accesses k d l in record { table = old.table; form = old.form; id = omega (arith, old.id) }) own;
      access_names_once = all_pairs_push (λ a b. a.name ≢ b.name) schema.accesses access s.access_names_once
          (λ k d l. other_name (get_or schema.accesses k d).name access.name (others k d l));
      ids_rise = all_pairs_push (λ a b. a.id.0 < b.id.0) schema.accesses access s.ids_rise (λ k d l. omega (arith, (s.accesses k d l).id, may.id));
    }

pub kept_with_access : (schema : Schema) (access : Access) (tn ai ai' : List ℕ → Option ℕ) (bt : List (List AccessId)) → MayMakeAccess schema access
    → IsKept schema tn ai bt
    → ((q : List ℕ) → ai' q ≡ cond (bytes_eq access.name q) (Some access.id.0) (ai q))
    → IsKept (schema_with_access schema access) tn ai' (set bt access.table.0 (get_or bt access.table.0 [] ++ access.id ∷ []))
kept_with_access schema access tn ai ai' bt may k names = record {
  sound = sound_with_access schema access may k.sound;
  tables_by_name = k.tables_by_name;
  accesses_by_name = λ q. names q ∙ ap (cond (bytes_eq access.name q) (Some access.id.0)) (k.accesses_by_name q) ∙ by q (bytes_eq access.name q) refl
      ∙ sym (ap (option_map number) (find-append (access_has_name q) schema.accesses (access ∷ [])));
  table_count = length-set bt access.table.0 (get_or bt access.table.0 [] ++ access.id ∷ []) ∙ k.table_count;
  ids_by_table = λ n h. ids n (omega (arith, h, length-set bt access.table.0 (get_or bt access.table.0 [] ++ access.id ∷ [])));
}
  where
    number : Access → ℕ
    number a = a.id.0

    by : (q : List ℕ) (b : Bool) → bytes_eq access.name q ≡ b
        → cond (bytes_eq access.name q) (Some access.id.0) (option_map (λ a. a.id.0) (find (access_has_name q) schema.accesses))
        ≡ option_map (λ a. a.id.0) (option_or (find (access_has_name q) schema.accesses) (cond (bytes_eq access.name q) (Some access) None))
    by q true e =
        rw e (sym (ap (λ o. option_map (λ a. a.id.0) (option_or o (Some access)))
        (subst (λ n. find (access_has_name n) schema.accesses ≡ None) (same_name access.name q e) (none_named schema access.name may.free))))
    by q false e = rw e (sym (ap (option_map (λ a. a.id.0)) (option_or-none (find (access_has_name q) schema.accesses))))

    more : (n : ℕ) → ids_on (schema.accesses ++ access ∷ []) n ≡ ids_on schema.accesses n ++ map (λ a. a.id) (cond (access.table.0 == n) (access ∷ []) [])
    more n =
        ap (map (λ a. a.id)) (filter-append (λ a. a.table.0 == n) schema.accesses (access ∷ []))
        ∙ map-append (λ a. a.id) (filter (λ a. a.table.0 == n) schema.accesses) (cond (access.table.0 == n) (access ∷ []) [])

    ids : (n : ℕ) → n < length bt → get_or (set bt access.table.0 (get_or bt access.table.0 [] ++ access.id ∷ [])) n []
        ≡ ids_on (schema.accesses ++ access ∷ []) n
    ids n h = elim (cases_eq n access.table.0) [
      | inl s ↦ let l : access.table.0 < length bt = omega (arith, h, s) in
          ap (λ m. get_or (set bt access.table.0 (get_or bt access.table.0 [] ++ access.id ∷ [])) m []) s
          ∙ get_or-set_same bt access.table.0 (get_or bt access.table.0 [] ++ access.id ∷ []) [] l
          ∙ ap (λ old. old ++ access.id ∷ []) (k.ids_by_table access.table.0 l)
          ∙ sym (ap (λ m. ids_on (schema.accesses ++ access ∷ []) m) s ∙ more access.table.0
          ∙ ap (λ b. ids_on schema.accesses access.table.0 ++ map (λ a. a.id) (cond b (access ∷ []) [])) (eq-eqb access.table.0 access.table.0 refl))
      | inr m ↦
          get_or-set_other bt access.table.0 n (get_or bt access.table.0 [] ++ access.id ∷ []) [] m ∙ k.ids_by_table n h
          ∙ sym (more n ∙ ap (λ b. ids_on schema.accesses n ++ map (λ a. a.id) (cond b (access ∷ []) [])) (ne_eqb access.table.0 n (λ e. m (sym e)))
          ∙ append-nil (ids_on schema.accesses n))
    ]

-- a drop: the one constraint with this name stands at a place, has this id, and is one of a table
pub record IsDropped (accesses : List Access) (name : List ℕ) (id : AccessId) (place : ℕ) (dropped : Access) : Type 0 where
  pub within : place < length accesses
  pub at : (d : Access) → get_or accesses place d ≡ dropped
  pub has_name : dropped.name ≡ name
  pub has_id : dropped.id.0 ≡ id.0

named_once : (schema : Schema) (name : List ℕ) (id : AccessId) (place : ℕ) (dropped : Access) → SchemaIsSound schema
    → IsDropped schema.accesses name id place dropped
    → (k : ℕ) (d : Access) → k < length schema.accesses → k ≢ place → access_has_name name (get_or schema.accesses k d) ≡ false
named_once schema name id place dropped s is k d l n = false_from_ne_true (access_has_name name (get_or schema.accesses k d)) (λ e.
    let same : (get_or schema.accesses k d).name ≡ (get_or schema.accesses place d).name = same_name (get_or schema.accesses k d).name name e ∙ sym is.has_name
    ∙ ap (λ a. a.name) (sym (is.at d)) in
    elim (cases_order k place) [
      | inl q ↦ n q
      | inr t ↦ elim t [ inl b ↦ s.access_names_once k place d b is.within same | inr b ↦ s.access_names_once place k d b l (sym same) ]
    ])

ids_once : (schema : Schema) (name : List ℕ) (id : AccessId) (place : ℕ) (dropped : Access) → SchemaIsSound schema
    → IsDropped schema.accesses name id place dropped
    → All (λ a. (a.id.0 == id.0) ≡ access_has_name name a) schema.accesses
ids_once schema name id place dropped s is k d l = elim (cases_eq k place) [
  | inl q ↦
      let here : get_or schema.accesses k d ≡ dropped = ap (λ j. get_or schema.accesses j d) q ∙ is.at d in
      eq-eqb (get_or schema.accesses k d).id.0 id.0 (ap (λ a. a.id.0) here ∙ is.has_id)
      ∙ sym ((bytes_eq-Decides (get_or schema.accesses k d).name name).1 (ap (λ a. a.name) here ∙ is.has_name))
  | inr n ↦
      ne_eqb (get_or schema.accesses k d).id.0 id.0 (λ e. n (one_place (λ a. a.id.0) schema.accesses k place d s.ids_rise l is.within
      (e ∙ sym is.has_id ∙ ap (λ a. a.id.0) (sym (is.at d)))))
      ∙ sym (named_once schema name id place dropped s is k d l n)
]

-- the filter by name takes out the one place
pub without_is_remove : (schema : Schema) (name : List ℕ) (id : AccessId) (place : ℕ) (dropped : Access) → SchemaIsSound schema
    → IsDropped schema.accesses name id place dropped
    → filter (λ a. not (access_has_name name a)) schema.accesses ≡ remove schema.accesses place
without_is_remove schema name id place dropped s is =
    filter_but_one (access_has_name name) schema.accesses place dropped is.within
    (ap (access_has_name name) (is.at dropped) ∙ (bytes_eq-Decides dropped.name name).1 is.has_name)
    (named_once schema name id place dropped s is)

pub sound_without : (schema : Schema) (name : List ℕ) → SchemaIsSound schema → SchemaIsSound (schema_without_access schema name)
sound_without schema name s = record {
  few_tables = s.few_tables;
  few_created = s.few_created;
  tables = s.tables;
  table_names_once = s.table_names_once;
  accesses = All-filter (λ a. not (access_has_name name a)) (AccessIsSound (schema_without_access schema name)) schema.accesses
      (λ k d l. let old = s.accesses k d l in record { table = old.table; form = old.form; id = old.id });
  access_names_once = AllPairs-filter (λ a b. a.name ≢ b.name) (λ a. not (access_has_name name a)) schema.accesses s.access_names_once;
  ids_rise = AllPairs-filter (λ a b. a.id.0 < b.id.0) (λ a. not (access_has_name name a)) schema.accesses s.ids_rise;
}

-- the ids of the constraints that are left
ids_left : (p : Access → Bool) (id table : ℕ) (xs : List Access) → All (λ a. (a.id.0 == id) ≡ p a) xs
    → filter (λ i. not (i.0 == id)) (map (λ a. a.id) (filter (λ a. a.table.0 == table) xs))
    ≡ map (λ a. a.id) (filter (λ a. a.table.0 == table) (filter (λ a. not (p a)) xs))
ids_left p id table [] h = refl
ids_left p id table (x ∷ xs) h = by (x.table.0 == table) refl (p x) refl (ids_left p id table xs (λ k d l. h (suc k) d (omega arith)))
  where
    by : (t : Bool) → (x.table.0 == table) ≡ t → (b : Bool) → p x ≡ b
        → filter (λ i. not (i.0 == id)) (map (λ a. a.id) (filter (λ a. a.table.0 == table) xs))
        ≡ map (λ a. a.id) (filter (λ a. a.table.0 == table) (filter (λ a. not (p a)) xs))
        → filter (λ i. not (i.0 == id)) (map (λ a. a.id) (cond t (x ∷ filter (λ a. a.table.0 == table) xs) (filter (λ a. a.table.0 == table) xs)))
        ≡ map (λ a. a.id) (filter (λ a. a.table.0 == table) (cond (not b) (x ∷ filter (λ a. not (p a)) xs) (filter (λ a. not (p a)) xs)))
    by true t true b g = ap (λ c. cond (not c) (x.id ∷ filter (λ i. not (i.0 == id)) (map (λ a. a.id) (filter (λ a. a.table.0 == table) xs)))
        (filter (λ i. not (i.0 == id)) (map (λ a. a.id) (filter (λ a. a.table.0 == table) xs)))) (h 0 x (omega arith) ∙ b) ∙ g
    by true t false b g =
        ap (λ c. cond (not c) (x.id ∷ filter (λ i. not (i.0 == id)) (map (λ a. a.id) (filter (λ a. a.table.0 == table) xs)))
        (filter (λ i. not (i.0 == id)) (map (λ a. a.id) (filter (λ a. a.table.0 == table) xs)))) (h 0 x (omega arith) ∙ b)
        ∙ ap (λ is. x.id ∷ is) g
        ∙ sym (ap (λ c. map (λ a. a.id) (cond c (x ∷ filter (λ a. a.table.0 == table) (filter (λ a. not (p a)) xs))
        (filter (λ a. a.table.0 == table) (filter (λ a. not (p a)) xs)))) t)
    by false t true b g = g
    by false t false b g = g ∙ sym (ap (λ c. map (λ a. a.id)
        (cond c (x ∷ filter (λ a. a.table.0 == table) (filter (λ a. not (p a)) xs)) (filter (λ a. a.table.0 == table) (filter (λ a. not (p a)) xs)))) t)

pub kept_without_access : (schema : Schema) (name : List ℕ) (id : AccessId) (place : ℕ) (dropped : Access) (tn ai ai' : List ℕ → Option ℕ)
    (bt : List (List AccessId))
    → IsDropped schema.accesses name id place dropped → IsKept schema tn ai bt → ((q : List ℕ) → ai' q ≡ cond (bytes_eq name q) None (ai q))
    → IsKept (schema_without_access schema name) tn ai' (set bt dropped.table.0 (filter (λ i. not (i.0 == id.0)) (get_or bt dropped.table.0 [])))
kept_without_access schema name id place dropped tn ai ai' bt is k names = record {
  sound = sound_without schema name k.sound;
  tables_by_name = k.tables_by_name;
  accesses_by_name = λ q. names q ∙ ap (cond (bytes_eq name q) None) (k.accesses_by_name q) ∙ by q (bytes_eq name q) refl;
  table_count = length-set bt dropped.table.0 (filter (λ i. not (i.0 == id.0)) (get_or bt dropped.table.0 [])) ∙ k.table_count;
  ids_by_table = λ n h. ids n (omega (arith, h, length-set bt dropped.table.0 (filter (λ i. not (i.0 == id.0)) (get_or bt dropped.table.0 []))));
}
  where
    by : (q : List ℕ) (b : Bool) → bytes_eq name q ≡ b
        → cond (bytes_eq name q) None (id_of_access_named schema.accesses q) ≡ id_of_access_named (filter (λ a. not (access_has_name name a)) schema.accesses) q
    by q true e = rw e (sym (ap (option_map (λ a. a.id.0))
        (subst (λ n. find (access_has_name n) (filter (λ a. not (access_has_name name a)) schema.accesses) ≡ None) (same_name name q e)
        (find_filtered (access_has_name name) schema.accesses))))
    by q false e = rw e (sym (ap (option_map (λ a. a.id.0)) (find_skips (access_has_name name) (access_has_name q) schema.accesses
        (λ a t. ap (λ n. bytes_eq n q) (same_name a.name name t) ∙ e))))

    other : (n : ℕ) → n ≢ dropped.table.0 → All (λ a. access_has_name name a ≡ true → (a.table.0 == n) ≡ false) schema.accesses
    other n m i d l t = elim (cases_eq i place) [
      | inl q ↦ ap (λ a. a.table.0 == n) (ap (λ j. get_or schema.accesses j d) q ∙ is.at d) ∙ ne_eqb dropped.table.0 n (λ e. m (sym e))
      | inr w ↦ absurd (true≢false (sym t ∙ named_once schema name id place dropped k.sound is i d l w))
    ]

    ids : (n : ℕ) → n < length bt → get_or (set bt dropped.table.0 (filter (λ i. not (i.0 == id.0)) (get_or bt dropped.table.0 []))) n []
        ≡ ids_on (filter (λ a. not (access_has_name name a)) schema.accesses) n
    ids n h = elim (cases_eq n dropped.table.0) [
      | inl s ↦ let l : dropped.table.0 < length bt = omega (arith, h, s) in
          ap (λ m. get_or (set bt dropped.table.0 (filter (λ i. not (i.0 == id.0)) (get_or bt dropped.table.0 []))) m []) s
          ∙ get_or-set_same bt dropped.table.0 (filter (λ i. not (i.0 == id.0)) (get_or bt dropped.table.0 [])) [] l
          ∙ ap (filter (λ i. not (i.0 == id.0))) (k.ids_by_table dropped.table.0 l)
          ∙ ids_left (access_has_name name) id.0 dropped.table.0 schema.accesses (ids_once schema name id place dropped k.sound is)
          ∙ ap (λ m. ids_on (filter (λ a. not (access_has_name name a)) schema.accesses) m) (sym s)
      | inr m ↦
          get_or-set_other bt dropped.table.0 n (filter (λ i. not (i.0 == id.0)) (get_or bt dropped.table.0 [])) [] m ∙ k.ids_by_table n h
          ∙ sym (ap (map (λ a. a.id)) (filter_skips (access_has_name name) (λ a. a.table.0 == n) schema.accesses (other n m)))
    ]

-- the constraint with this name is the one with this id
pub dropped_at : (schema : Schema) (name : List ℕ) (id : AccessId) (place : ℕ) (dropped : Access) → SchemaIsSound schema
    → id_of_access_named schema.accesses name ≡ Some id.0
    → place < length schema.accesses → ((d : Access) → get_or schema.accesses place d ≡ dropped) → dropped.id.0 ≡ id.0
    → IsDropped schema.accesses name id place dropped
dropped_at schema name id place dropped s e within at has_id =
    let m = some_from_map (λ a. a.id.0) (find (access_has_name name) schema.accesses) id.0 e in
    let f = find_some (access_has_name name) schema.accesses m.0 m.1 in
    let here : f.place ≡ place = one_place (λ a. a.id.0) schema.accesses f.place place dropped s.ids_rise f.within within
    (ap (λ a. a.id.0) (f.at dropped) ∙ m.2 ∙ sym has_id ∙ ap (λ a. a.id.0) (sym (at dropped))) in
    let same : m.0 ≡ dropped = sym (f.at dropped) ∙ ap (λ j. get_or schema.accesses j dropped) here ∙ at dropped in
    record { within = within; at = at; has_name = ap (λ a. a.name) (sym same) ∙ same_name m.0.name name f.passes; has_id = has_id }

pub live_where_named : (accesses : List Access) (name : List ℕ) (id : AccessId) → id_of_access_named accesses name ≡ Some id.0
    → list_any (λ a. a.id.0 == id.0) accesses ≡ true
live_where_named accesses name id e =
    let m = some_from_map (λ a. a.id.0) (find (access_has_name name) accesses) id.0 e in
    let f = find_some (access_has_name name) accesses m.0 m.1 in
    list_any_at (λ a. a.id.0 == id.0) accesses f.place m.0 f.within (eq-eqb (get_or accesses f.place m.0).id.0 id.0 (ap (λ a. a.id.0) (f.at m.0) ∙ m.2))

-- the same from what a body has seen: the constraints lent as a slice, and those out of which the dropped one was taken
pub dropped_here : (schema : Schema) (name : List ℕ) (id : AccessId) (place : ℕ) (dropped : Access) (lent items : List Access) → SchemaIsSound schema
    → id_of_access_named schema.accesses name ≡ Some id.0 → lent ≡ schema.accesses → items ≡ schema.accesses → place < length lent
    → ((d : Access) → get_or lent place d ≡ access_with_id lent id) → (access_with_id lent id).id.0 ≡ id.0 → dropped ≡ get_or items place dropped
    → IsDropped schema.accesses name id place dropped
dropped_here schema name id place dropped lent items s e l i within found has_id is =
    let inside : place < length schema.accesses = subst (λ (xs : List Access). place < length xs) l within in
    let at = λ (d : Access). get_or_default schema.accesses place d dropped inside ∙ ap (λ xs. get_or xs place dropped) (sym i) ∙ sym is in
    let own : dropped.id.0 ≡ id.0 = ap (λ a. a.id.0) (sym (at dropped)) ∙ ap (λ xs. (get_or xs place dropped).id.0) (sym l) ∙ ap (λ a. a.id.0) (found dropped)
    ∙ has_id in
    dropped_at schema name id place dropped s e inside at own
