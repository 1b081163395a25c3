-- What isn't refused can be made.
use Rattle.std.proofs.Common.{◌≡◌, ◌≢◌, ◌∙◌, ◌<◌, ◌≤◌, ◌&&◌, ℕ, Bool, true, false, cond, List, [], map, take, length, get_or, ap, refl, sym, subst, arith, Option, Some, None, is_some, if◌then◌else◌, true≢false, zero-add}
use Rattle.std.specs.Prelude.{find, option_map, unwrap_or, All, AllPairs, nat_le, nat_lt}
use Rattle.std.specs.List.{list_any, list_all, enumerate_from, position_or_len}
use Rattle.std.specs.Option.{is_none}
use Rattle.std.specs.Str.{bytes_eq}
use Rattle.std.specs.Str.Parse.{digits_value}
use Rattle.std.specs.Char.{is_ascii_digit}
use Rattle.std.proofs.lemmas.Bool.{leb-true, leb-false, ltb-true, ltb-false}
use Rattle.std.proofs.lemmas.List.{get_or-take, get_or-map, length-map, length-take}
use Rattle.std.proofs.lemmas.List.FromFn.{get_or-enumerate_from, length-enumerate_from}
use Rattle.std.proofs.lemmas.List.Folds.{list_any_at}
use Rattle.std.proofs.lemmas.List.Quantifiers.{position-Some}
use Rattle.std.proofs.lemmas.Slice.Eq.{bytes_eq-Decides}
use Rattle.std.specs.Cmp.Lexicographic.{nat_list_eq_equiv}
use Rattle.beas_core.specs.declared.limits.Limits.{Limits}
use Rattle.beas_core.specs.declared.refusal.Refusal.{Refusal}
use Rattle.beas_core.specs.declared.refusal.Refusal.TheVariants.{DuplicateName, UnknownColumn}
use Rattle.beas_core.specs.declared.schema.AccessSpec.{AccessSpec}
use Rattle.beas_core.specs.declared.schema.Column.{Column}
use Rattle.beas_core.specs.declared.schema.ColType.TheVariants.{Integer}
use Rattle.beas_core.specs.declared.schema.ColumnId.{ColumnId}
use Rattle.beas_core.specs.declared.schema.TableId.{TableId}
use Rattle.beas_core.specs.Shapes.{EachOnce}
use Rattle.catalogue.specs.Schema.{Schema, table_named}
use Rattle.catalogue.specs.Kept.{MayMakeTable, MayMakeAccess}
use Rattle.beas_core.specs.Results.{refused_if}
use Rattle.catalogue.specs.Refusing.{first_repeated, repeated_name, unknown_table, unknown_column, no_such_column, column_ids, columns_of_named, new_access, admit_refusal, add_table_refusal}
use Rattle.catalogue.proofs.ListFacts.{find_none, none_from_map, option_or-both_none}

not_refused : (b : Bool) (why : Refusal) → refused_if b why ≡ None → b ≡ false
not_refused true why e = cc
not_refused false why e = refl

none_from_is_some' : {X : Type 0} (o : Option X) → is_some o ≡ false → o ≡ None
none_from_is_some' None e = refl
none_from_is_some' (Some x) e = cc

-- names of which none stands twice are different
pub names_differ : (names : List (List ℕ)) → first_repeated names ≡ None → AllPairs (λ a b. a ≢ b) names
names_differ names e i j d b h same =
    let entries = enumerate_from 0 names in
    let stood = find_none (λ n. list_any (bytes_eq n.1) (take n.0 names)) entries
    (none_from_map (λ n. n.1) (find (λ n. list_any (bytes_eq n.1) (take n.0 names)) entries) e) in
    let long : j < length entries = omega (arith, h, length-enumerate_from 0 names) in
    let none : list_any (bytes_eq (get_or names j d)) (take j names) ≡ false =
    ap (λ n. list_any (bytes_eq n.1) (take n.0 names)) (sym (get_or-enumerate_from 0 names j (0, d) h ∙ ap (λ m. (m, get_or names j d)) (zero-add j)))
    ∙ stood j (0, d) long in
    let within : i < length (take j names) = omega (arith, b, h, length-take j names) in
    let there : get_or (take j names) i d ≡ get_or names j d = get_or-take j names i d b ∙ same in
    true≢false (sym (list_any_at (bytes_eq (get_or names j d)) (take j names) i d within
    (ap (bytes_eq (get_or names j d)) there ∙ nat_list_eq_equiv.refl (get_or names j d))) ∙ none)

pub no_repeat : (names : List (List ℕ)) → repeated_name names ≡ None → AllPairs (λ a b. a ≢ b) names
no_repeat names e = names_differ names (none_from_map DuplicateName (first_repeated names) e)

-- a table whose making isn't refused can be made
pub may_make_table : (limits : Limits) (schema : Schema) (name : List ℕ) (columns : List Column) → add_table_refusal limits schema name columns ≡ None
    → 1 ≤ length columns → limits.tables ≤ 1024 → limits.columns ≤ 64 → MayMakeTable schema (record { name = name; columns = columns })
may_make_table limits schema name columns e some few narrow =
    let a = option_or-both_none _ _ e in
    let b = option_or-both_none _ _ a.1 in
    let c = option_or-both_none _ _ b.1 in
    let apart = no_repeat (map (λ c. c.name) columns) b.0 in
    record {
      free = none_from_is_some' (table_named schema name) (not_refused _ _ a.0);
      room = omega (arith, few, leb-false limits.tables (length schema.tables) (not_refused _ _ c.0));
      sound = record {
        some_column = some;
        few_columns = omega (arith, narrow, ltb-false limits.columns (length columns) (not_refused _ _ c.1));
        names_once = λ i j d l h s.
            let long : j < length (map (λ c. c.name) columns) = omega (arith, h, length-map columns (λ c. c.name)) in
            apart i j d.name l long
            (get_or-map (λ c. c.name) columns i d d.name (omega (arith, l, h)) ∙ s ∙ sym (get_or-map (λ c. c.name) columns j d d.name h));
      };
    }

-- a known name has its column
record HasColumn (columns : List Column) (name : List ℕ) : Type 0 where
  within : position_or_len (λ c. bytes_eq c.name name) columns < length columns
  named : (d : Column) → (get_or columns (position_or_len (λ c. bytes_eq c.name name) columns) d).name ≡ name

has_column : (columns : List Column) (name : List ℕ) → no_such_column columns name ≡ false → HasColumn columns name
has_column columns name e = by (nat_lt (position_or_len (λ c. bytes_eq c.name name) columns) (length columns)) refl e
  where
    place : ℕ
    place = position_or_len (λ c. bytes_eq c.name name) columns

    by : (b : Bool) → nat_lt (position_or_len (λ c. bytes_eq c.name name) columns) (length columns) ≡ b
        → is_none (option_map (λ (i : ℕ). let id : ColumnId = record { 0 = i } in id)
        (cond b (Some (position_or_len (λ c. bytes_eq c.name name) columns)) None)) ≡ false → HasColumn columns name
    by true t f = record {
      within = ltb-true (position_or_len (λ c. bytes_eq c.name name) columns) (length columns) t;
      named = λ d. (bytes_eq-Decides _ name).0 (position-Some (λ c. bytes_eq c.name name) columns (position_or_len (λ c. bytes_eq c.name name) columns) d
          (ap (λ b. cond b (Some (position_or_len (λ c. bytes_eq c.name name) columns)) None) t)).1;
    }
    by false t f = absurd (true≢false f)

known : (columns : List Column) (names : List (List ℕ)) → unknown_column columns names ≡ None → (i : ℕ) (d : List ℕ) → i < length names
    → HasColumn columns (get_or names i d)
known columns names e i d h = has_column columns (get_or names i d)
    (find_none (no_such_column columns) names (none_from_map (UnknownColumn None) (find (no_such_column columns) names) e) i d h)

ids_at : (columns : List Column) (names : List (List ℕ)) (i : ℕ) (d : ColumnId) (e : List ℕ) → i < length names
    → (get_or (column_ids columns names) i d).0 ≡ position_or_len (λ c. bytes_eq c.name (get_or names i e)) columns
ids_at columns names i d e h = ap (λ c. c.0) (get_or-map (λ n. let id : ColumnId = record { 0 = position_or_len (λ c. bytes_eq c.name n) columns } in id) names
    i e d h)

length-ids : (columns : List Column) (names : List (List ℕ)) → length (column_ids columns names) ≡ length names
length-ids columns names = length-map names (λ n. let id : ColumnId = record { 0 = position_or_len (λ c. bytes_eq c.name n) columns } in id)

ids_within : (columns : List Column) (names : List (List ℕ)) → unknown_column columns names ≡ None → All (λ c. c.0 < length columns) (column_ids columns names)
ids_within columns names e i d h =
    let l : i < length names = omega (arith, h, length-ids columns names) in
    let p = (known columns names e i [] l).within in
    omega (arith, p, ids_at columns names i d [] l)

no_column : Column
no_column = record { name = []; kind = Integer }

ids_once : (columns : List Column) (names : List (List ℕ)) → unknown_column columns names ≡ None → repeated_name names ≡ None
    → EachOnce (column_ids columns names)
ids_once columns names e r i j d b h same =
    let l : j < length names = omega (arith, h, length-ids columns names) in
    let k : i < length names = omega (arith, b, l) in
    let place : position_or_len (λ c. bytes_eq c.name (get_or names i [])) columns ≡ position_or_len (λ c. bytes_eq c.name (get_or names j [])) columns =
    sym (ids_at columns names i d [] k) ∙ same ∙ ids_at columns names j d [] l in
    no_repeat names r i j [] b l
    (sym ((known columns names e i [] k).named no_column) ∙ ap (λ p. (get_or columns p no_column).name) place ∙ (known columns names e j [] l).named no_column)

limit_some : (b : Bool) (v : ℕ) → is_none (if b then Some v else None) ≡ false → b ≡ true
limit_some true v e = refl
limit_some false v e = absurd (true≢false e)

and_left : (a b : Bool) → (a && b) ≡ true → a ≡ true
and_left true b e = refl
and_left false b e = e

and_right : (a b : Bool) → (a && b) ≡ true → b ≡ true
and_right true b e = e
and_right false b e = absurd (true≢false (sym e))

bound_is_some : (b : Bool) (v : ℕ) → b ≡ true → unwrap_or (if b then Some v else None) 0 ≡ v
bound_is_some b v e = rw e

known_table : (schema : Schema) (name : List ℕ) → unknown_table schema name ≡ None
    → (unwrap_or (table_named schema name) (record { 0 = 0 })).0 < length schema.tables
known_table schema name e =
    by (nat_lt (position_or_len (λ t. bytes_eq t.name name) schema.tables) (length schema.tables)) refl (not_refused _ _ e)
  where
    by : (b : Bool) → nat_lt (position_or_len (λ t. bytes_eq t.name name) schema.tables) (length schema.tables) ≡ b
        → is_none (option_map (λ (i : ℕ). let id : TableId = record { 0 = i } in id)
        (cond b (Some (position_or_len (λ t. bytes_eq t.name name) schema.tables)) None)) ≡ false
        → (unwrap_or (option_map (λ (i : ℕ). let id : TableId = record { 0 = i } in id)
        (cond b (Some (position_or_len (λ t. bytes_eq t.name name) schema.tables)) None)) (record { 0 = 0 })).0 < length schema.tables
    by true t f = ltb-true (position_or_len (λ t. bytes_eq t.name name) schema.tables) (length schema.tables) t
    by false t f = absurd (true≢false f)

-- a constraint whose making isn't refused can be made
pub may_make_access : (limits : Limits) (schema : Schema) (spec : AccessSpec) → admit_refusal limits schema spec ≡ None → 1 ≤ length spec.fetched
    → limits.constraints ≤ 65536
    → MayMakeAccess schema (new_access schema spec)
may_make_access limits schema spec e some few =
    let columns = columns_of_named schema spec.table in
    let a = option_or-both_none _ _ e in
    let b = option_or-both_none _ _ a.1 in
    let u = option_or-both_none _ _ b.0 in
    let c = option_or-both_none _ _ b.1 in
    let d = option_or-both_none _ _ c.1 in
    let r = option_or-both_none _ _ d.0 in
    let f = option_or-both_none _ _ d.1 in
    let v = digits_value 10 spec.limit in
    let digits = nat_le 1 (length spec.limit) && list_all is_ascii_digit spec.limit in
    let test : (digits && nat_le 1 v && nat_le v 4294967295) ≡ true = limit_some _ v (not_refused _ _ f.0) in
    let least : 1 ≤ v = leb-true 1 v (and_right digits (nat_le 1 v) (and_left (digits && nat_le 1 v) (nat_le v 4294967295) test)) in
    record {
      free = not_refused _ _ c.0;
      room = omega (arith, few, leb-false limits.constraints schema.created (not_refused _ _ f.1));
      id = refl;
      table = known_table schema spec.table a.0;
      form = record {
        fetches = omega (arith, some, length-ids columns spec.fetched);
        key_once = ids_once columns spec.key u.0 r.0;
        fetched_once = ids_once columns spec.fetched u.1 r.1;
        key_columns = ids_within columns spec.key u.0;
        fetched_columns = ids_within columns spec.fetched u.1;
        bound = subst (λ (n : ℕ). 1 ≤ n) (sym (bound_is_some (digits && nat_le 1 v && nat_le v 4294967295) v test)) least;
      };
    }
