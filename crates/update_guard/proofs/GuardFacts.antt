-- What a guard keeps stays true when a table is made, a constraint is made or dropped, and rows come or go; and the database that it is then.
use Rattle.std.proofs.Common.{◌≡◌, ◌∙◌, ◌<◌, ◌≤◌, ◌+◌, ◌⊎◌, ℕ, zero, suc, List, [], ◌∷◌, ◌++◌, length, get_or, set, ap, refl, sym, subst, arith, inl, inr, length-append, length-set}
use Rattle.std.specs.Prelude.{All, remove, Result, Ok, Err, OnOk, OnErr}
use Rattle.std.proofs.Math.Seq.{get_or-append_seam}
use Rattle.std.proofs.Math.ListN.{get_or-append}
use Rattle.std.proofs.lemmas.Bool.{cases_eq, cases_order}
use Rattle.std.proofs.lemmas.List.{get_or-set_same, get_or-set_other}
use Rattle.std.proofs.lemmas.List.Elements.{All-push}
use Rattle.std.proofs.lemmas.List.Edits.{get_or-remove_below, get_or-remove_above, length-remove}
use Rattle.beas_core.specs.declared.schema.Access.{Access}
use Rattle.beas_core.specs.declared.schema.Column.{Column}
use Rattle.beas_core.specs.declared.schema.TableId.{TableId}
use Rattle.beas_core.specs.Types.{Row}
use Rattle.beas_core.specs.Groups.{Holds}
use Rattle.beas_core.specs.Shapes.{AccessIsWellFormed}
use Rattle.access_index.specs.Index.{Index, IsIndexOf}
use Rattle.catalogue.specs.declared.tables.TableSchema.{TableSchema}
use Rattle.catalogue.specs.Schema.{Schema, no_table, columns_at, schema_with_table, schema_with_access, schema_without_access}
use Rattle.catalogue.specs.Database.{RowFits}
use Rattle.std.proofs.Math.ListN.{get_or-eq_default}
use Rattle.update_guard.specs.Guarding.{IsIndexAt, IndexesOf, IsGuarded}
use Rattle.catalogue.specs.Stored.{HoldOver}
use Rattle.update_guard.specs.Making.{AddsIndex, DropsIndex}

-- one table more, without rows
rows_pushed : (rows : List (List Row)) (i : ℕ) → get_or (rows ++ [] ∷ []) i [] ≡ get_or rows i []
rows_pushed [] zero = refl
rows_pushed [] (suc i) = refl
rows_pushed (r ∷ rows) zero = refl
rows_pushed (r ∷ rows) (suc i) = rows_pushed rows i

pub guarded_with_table : (schema : Schema) (rows : List (List Row)) (indexes : List Index) (name : List ℕ) (columns : List Column)
    → IsGuarded schema rows indexes
    → IsGuarded (schema_with_table schema name columns) (rows ++ [] ∷ []) indexes
guarded_with_table schema rows indexes name columns g = record {
  tables = length-append rows ([] ∷ []) ∙ ap (λ n. n + 1) g.tables ∙ sym (length-append schema.tables (record { name = name; columns = columns } ∷ []));
  few = All-push (λ r. length r ≤ 16777216) rows [] g.few (omega arith);
  fits = fits;
  indexed = record {
    count = g.indexed.count;
    each = λ i d e l. let o = g.indexed.each i d e l in record {
      access_is = o.access_is;
      index_is = subst (IsIndexOf (get_or indexes i d)) (sym (rows_pushed rows (get_or schema.accesses i e).table.0)) o.index_is;
    };
  };
  hold = λ i d l. subst (λ (rs : List Row). Holds rs (get_or schema.accesses i d)) (sym (rows_pushed rows (get_or schema.accesses i d).table.0)) (g.hold i d l);
}
  where
    fits : (i : ℕ) → i < length (rows ++ [] ∷ []) → All (RowFits (get_or (schema.tables ++ record { name = name; columns = columns } ∷ []) i no_table).columns)
        (get_or (rows ++ [] ∷ []) i [])
    fits i h = elim (cases_eq i (length rows)) [
      | inl s ↦ λ k d l. absurd (omega (arith, l, ap (λ j. length (get_or (rows ++ [] ∷ []) j [])) s, ap length (get_or-append_seam rows [] [] [])))
      | inr n ↦
          let l : i < length rows = omega (arith, h, n, length-append rows ([] ∷ [])) in
          let P : TableSchema → Type 0 = λ t. All (RowFits t.columns) (get_or (rows ++ [] ∷ []) i []) in
          subst P (sym (get_or-append schema.tables (record { name = name; columns = columns } ∷ []) no_table i (omega (arith, l, g.tables))))
          (subst (λ (rs : List Row). All (RowFits (get_or schema.tables i no_table).columns) rs) (sym (rows_pushed rows i)) (g.fits i l))
    ]

-- one constraint more, with its index
pub guarded_with_access : (schema : Schema) (rows : List (List Row)) (old new : List Index) (access : Access) → IsGuarded schema rows old
    → AddsIndex (get_or rows access.table.0 []) access old new → IsGuarded (schema_with_access schema access) rows new
guarded_with_access schema rows old new access g a = record {
  tables = g.tables;
  few = g.few;
  fits = g.fits;
  indexed = record {
    count = ap length a.added ∙ length-append old (a.index ∷ []) ∙ ap (λ n. n + 1) g.indexed.count ∙ sym (length-append schema.accesses (access ∷ []));
    each = each;
  };
  hold = All-push (λ x. Holds (get_or rows x.table.0 []) x) schema.accesses access g.hold a.holds;
}
  where
    each : (i : ℕ) (d : Index) (e : Access) → i < length (schema.accesses ++ access ∷ [])
        → IsIndexAt rows (get_or new i d) (get_or (schema.accesses ++ access ∷ []) i e)
    each i d e h = elim (cases_eq i (length schema.accesses)) [
      | inl s ↦
          let x : get_or new i d ≡ a.index = ap (λ xs. get_or xs i d) a.added ∙ ap (λ j. get_or (old ++ a.index ∷ []) j d) (s ∙ sym g.indexed.count)
          ∙ get_or-append_seam old a.index [] d in
          let y : get_or (schema.accesses ++ access ∷ []) i e ≡ access = ap (λ j. get_or (schema.accesses ++ access ∷ []) j e) s
          ∙ get_or-append_seam schema.accesses access [] e in
          subst (λ (z : Index). IsIndexAt rows z (get_or (schema.accesses ++ access ∷ []) i e)) (sym x)
          (subst (λ (z : Access). IsIndexAt rows a.index z) (sym y) (record { access_is = a.access_is; index_is = a.index_is }))
      | inr n ↦
          let l : i < length schema.accesses = omega (arith, h, n, length-append schema.accesses (access ∷ [])) in
          let x : get_or new i d ≡ get_or old i d = ap (λ xs. get_or xs i d) a.added
          ∙ get_or-append old (a.index ∷ []) d i (omega (arith, l, g.indexed.count)) in
          let y : get_or (schema.accesses ++ access ∷ []) i e ≡ get_or schema.accesses i e = get_or-append schema.accesses (access ∷ []) e i l in
          subst (λ (z : Index). IsIndexAt rows z (get_or (schema.accesses ++ access ∷ []) i e)) (sym x)
          (subst (λ (z : Access). IsIndexAt rows (get_or old i d) z) (sym y) (g.indexed.each i d e l))
    ]

below_or_above : (i n : ℕ) → (i < n) ⊎ (n ≤ i)
below_or_above i n = elim (cases_order i n) [
  | inl s ↦ inr (omega arith)
  | inr t ↦ elim t [ inl b ↦ inl b | inr b ↦ inr (omega arith) ]
]

-- one constraint less, and its index
pub guarded_without : (schema : Schema) (rows : List (List Row)) (indexes : List Index) (accesses : List Access) (place : ℕ) → IsGuarded schema rows indexes
    → place < length schema.accesses
    → accesses ≡ remove schema.accesses place → IsGuarded (record schema { accesses = accesses }) rows (remove indexes place)
guarded_without schema rows indexes accesses place g h e = record {
  tables = g.tables;
  few = g.few;
  fits = g.fits;
  indexed = record {
    count = omega (arith, length-remove indexes place long, ap length e, length-remove schema.accesses place h, g.indexed.count);
    each = each;
  };
  hold = hold;
}
  where
    long : place < length indexes
    long = omega (arith, h, g.indexed.count)

    shorter : length (remove schema.accesses place) + 1 ≡ length schema.accesses
    shorter = omega (arith, length-remove schema.accesses place h)

    from : (i : ℕ) (d : Index) (f : Access) → i < length (remove schema.accesses place)
        → IsIndexAt rows (get_or (remove indexes place) i d) (get_or (remove schema.accesses place) i f)
    from i d f l = elim (below_or_above i place) [
      | inl b ↦
          subst (λ (z : Index). IsIndexAt rows z (get_or (remove schema.accesses place) i f)) (sym (get_or-remove_below indexes place d i b long))
          (subst (λ (z : Access). IsIndexAt rows (get_or indexes i d) z) (sym (get_or-remove_below schema.accesses place f i b h))
          (g.indexed.each i d f (omega (arith, b, h))))
      | inr a ↦
          subst (λ (z : Index). IsIndexAt rows z (get_or (remove schema.accesses place) i f)) (sym (get_or-remove_above indexes place d i a long))
          (subst (λ (z : Access). IsIndexAt rows (get_or indexes (i + 1) d) z) (sym (get_or-remove_above schema.accesses place f i a h))
          (g.indexed.each (i + 1) d f (omega (arith, l, shorter))))
    ]

    each : (i : ℕ) (d : Index) (f : Access) → i < length accesses → IsIndexAt rows (get_or (remove indexes place) i d) (get_or accesses i f)
    each i d f l =
        subst (λ (xs : List Access). IsIndexAt rows (get_or (remove indexes place) i d) (get_or xs i f)) (sym e) (from i d f (omega (arith, l, ap length e)))

    held : (i : ℕ) (f : Access) → i < length (remove schema.accesses place)
        → Holds (get_or rows (get_or (remove schema.accesses place) i f).table.0 []) (get_or (remove schema.accesses place) i f)
    held i f l =
        let P : Access → Type 0 = λ a. Holds (get_or rows a.table.0 []) a in
        elim (below_or_above i place) [
          | inl b ↦ subst P (sym (get_or-remove_below schema.accesses place f i b h)) (g.hold i f (omega (arith, b, h)))
          | inr a ↦ subst P (sym (get_or-remove_above schema.accesses place f i a h)) (g.hold (i + 1) f (omega (arith, l, shorter)))
        ]

    hold : (i : ℕ) (f : Access) → i < length accesses → Holds (get_or rows (get_or accesses i f).table.0 []) (get_or accesses i f)
    hold i f l =
        subst (λ (xs : List Access). Holds (get_or rows (get_or xs i f).table.0 []) (get_or xs i f)) (sym e) (held i f (omega (arith, l, ap length e)))

-- other rows of one table
pub guarded_with_rows : (schema : Schema) (rows : List (List Row)) (old new : List Index) (id : TableId) (own : List Row) → IsGuarded schema rows old
    → id.0 < length rows
    → length own ≤ 16777216 → All (RowFits (columns_at schema id)) own → IndexesOf schema.accesses (set rows id.0 own) new
    → HoldOver schema.accesses (set rows id.0 own)
    → IsGuarded schema (set rows id.0 own) new
guarded_with_rows schema rows old new id own g live few fit indexed hold = record {
  tables = length-set rows id.0 own ∙ g.tables;
  few = λ i d l. elim (cases_eq i id.0) [
    | inl s ↦ subst (λ (r : List Row). length r ≤ 16777216) (sym (ap (λ j. get_or (set rows id.0 own) j d) s ∙ get_or-set_same rows id.0 own d live)) few
    | inr n ↦ subst (λ (r : List Row). length r ≤ 16777216) (sym (get_or-set_other rows id.0 i own d n))
        (g.few i d (omega (arith, l, length-set rows id.0 own)))
  ];
  fits = λ i l. elim (cases_eq i id.0) [
    | inl s ↦
        let P : ℕ → Type 0 = λ j. All (RowFits (get_or schema.tables j no_table).columns) (get_or (set rows id.0 own) j []) in
        subst P (sym s) (subst (λ (r : List Row). All (RowFits (columns_at schema id)) r) (sym (get_or-set_same rows id.0 own [] live)) fit)
    | inr n ↦ subst (λ (r : List Row). All (RowFits (get_or schema.tables i no_table).columns) r) (sym (get_or-set_other rows id.0 i own [] n))
        (g.fits i (omega (arith, l, length-set rows id.0 own)))
  ];
  indexed = indexed;
  hold = hold;
}

-- what a guard keeps after the making of a constraint, made or not
pub after_create_access : {A E : Type 0} (r : Result A E) (schema schema' : Schema) (rows : List (List Row)) (indexes items items' indexes' : List Index)
    (access : Access) → IsGuarded schema rows indexes
    → items ≡ indexes → indexes' ≡ items' → OnOk r (schema' ≡ schema_with_access schema access)
    → OnOk r (AddsIndex (get_or rows access.table.0 []) access items items')
    → OnErr r (schema' ≡ schema) → OnErr r (items' ≡ items) → IsGuarded schema' rows indexes'
after_create_access (Ok x) schema schema' rows indexes items items' indexes' access g e f p q u v =
    subst (λ s. IsGuarded s rows indexes') (sym p) (subst (λ i. IsGuarded (schema_with_access schema access) rows i) (sym f)
    (guarded_with_access schema rows items items' access (subst (λ i. IsGuarded schema rows i) (sym e) g) q))
after_create_access (Err x) schema schema' rows indexes items items' indexes' access g e f p q u v =
    subst (λ s. IsGuarded s rows indexes') (sym u) (subst (λ i. IsGuarded schema rows i) (sym (f ∙ v ∙ e)) g)

-- and of a table
pub after_create_table : {A E : Type 0} (r : Result A E) (schema schema' : Schema) (rows items items' rows' : List (List Row)) (indexes : List Index)
    (name : List ℕ) (columns : List Column) → IsGuarded schema rows indexes
    → items ≡ rows → rows' ≡ items' → OnOk r (schema' ≡ schema_with_table schema name columns) → OnOk r (items' ≡ items ++ [] ∷ [])
    → OnErr r (schema' ≡ schema) → OnErr r (items' ≡ items) → IsGuarded schema' rows' indexes
after_create_table (Ok x) schema schema' rows items items' rows' indexes name columns g e f p q u v =
    subst (λ s. IsGuarded s rows' indexes) (sym p) (subst (λ rs. IsGuarded (schema_with_table schema name columns) rs indexes)
    (sym (f ∙ q ∙ ap (λ rs. rs ++ [] ∷ []) e))
    (guarded_with_table schema rows indexes name columns g))
after_create_table (Err x) schema schema' rows items items' rows' indexes name columns g e f p q u v =
    subst (λ s. IsGuarded s rows' indexes) (sym u) (subst (λ rs. IsGuarded schema rs indexes) (sym (f ∙ v ∙ e)) g)

pub on_ok : {A E P Q : Type 0} (r : Result A E) → OnOk r P → (P → Q) → OnOk r Q
on_ok (Ok x) p f = f p
on_ok (Err x) p f = tt

pub on_err : {A E P Q : Type 0} (r : Result A E) → OnErr r P → (P → Q) → OnErr r Q
on_err (Ok x) p f = tt
on_err (Err x) p f = f p

pub on_ok_both : {A E P Q R : Type 0} (r : Result A E) → OnOk r P → OnOk r Q → (P → Q → R) → OnOk r R
on_ok_both (Ok x) p q f = f p q
on_ok_both (Err x) p q f = tt

pub on_err_both : {A E P Q R : Type 0} (r : Result A E) → OnErr r P → OnErr r Q → (P → Q → R) → OnErr r R
on_err_both (Ok x) p q f = tt
on_err_both (Err x) p q f = f p q

-- and after a drop
pub after_drop_access : {A E : Type 0} (r : Result A E) (schema schema' : Schema) (rows : List (List Row)) (indexes items items' indexes' : List Index)
    (name : List ℕ) → IsGuarded schema rows indexes
    → items ≡ indexes → indexes' ≡ items' → OnOk r (schema' ≡ schema_without_access schema name)
    → OnOk r (DropsIndex schema.accesses (schema_without_access schema name).accesses items items')
    → OnErr r (schema' ≡ schema) → OnErr r (items' ≡ items) → IsGuarded schema' rows indexes'
after_drop_access (Ok x) schema schema' rows indexes items items' indexes' name g e f p q u v =
    subst (λ s. IsGuarded s rows indexes') (sym p) (subst (λ i. IsGuarded (schema_without_access schema name) rows i)
    (sym (f ∙ q.indexes_are ∙ ap (λ i. remove i q.place) e))
    (guarded_without schema rows indexes (schema_without_access schema name).accesses q.place g q.within q.accesses_are))
after_drop_access (Err x) schema schema' rows indexes items items' indexes' name g e f p q u v =
    subst (λ s. IsGuarded s rows indexes') (sym u) (subst (λ i. IsGuarded schema rows i) (sym (f ∙ v ∙ e)) g)

-- no table has more rows than a guard keeps
pub few_at : (schema : Schema) (rows : List (List Row)) (indexes : List Index) → IsGuarded schema rows indexes → (i : ℕ) → length (get_or rows i []) ≤ 16777216
few_at schema rows indexes g i = elim (below_or_above i (length rows)) [
  | inl b ↦ g.few i [] b
  | inr a ↦ let e = ap length (get_or-eq_default rows [] a) in omega (arith, e)
]

-- a constraint on a table of few columns
pub widened : (width : ℕ) (access : Access) → width ≤ 64 → AccessIsWellFormed width access → AccessIsWellFormed 64 access
widened width access l f = record {
  fetches = f.fetches;
  key_once = f.key_once;
  fetched_once = f.fetched_once;
  key_columns = λ k d h. omega (arith, f.key_columns k d h, l);
  fetched_columns = λ k d h. omega (arith, f.fetched_columns k d h, l);
  bound = f.bound;
}
