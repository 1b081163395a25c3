-- The rows of a file without a fault fit its table's columns.
use Rattle.std.proofs.Common.{◌≡◌, ◌∙◌, ◌+◌, ℕ, ℤ, zero, suc, Bool, true, false, cond, not, ◌&&◌, ◌==◌, List, [], ◌∷◌, length, map, Option, Some, None, Ok, Err, Result, refl, ap, sym, arith, slice_get, inl, inr}
use Rattle.std.specs.Prelude.{All, IfOk, filter}
use Rattle.std.specs.List.{cons_option, enumerate_from, find, list_all, zip}
use Rattle.std.specs.Option.{is_some, option_and_then, option_map, option_map_or}
use Rattle.std.proofs.lemmas.Bool.{eqb-true}
use Rattle.std.proofs.lemmas.List.Elements.{All-cons, All-nil}
use Rattle.beas_core.specs.declared.errors.Fail.{Fail}
use Rattle.beas_core.specs.declared.refusal.Refusal.{Refusal}
use Rattle.beas_core.specs.declared.refusal.Refusal.TheVariants.{BadField, HeaderMismatch, RecordWidth}
use Rattle.beas_core.specs.declared.schema.ColType.{ColType}
use Rattle.beas_core.specs.declared.schema.ColType.TheVariants.{Integer, Words}
use Rattle.beas_core.specs.declared.schema.Column.{Column}
use Rattle.beas_core.specs.declared.value.Value.{Value}
use Rattle.beas_core.specs.declared.value.Value.TheVariants.{Int, Str}
use Rattle.beas_core.specs.Results.{IsRefusedAs}
use Rattle.beas_core.proofs.Sets.{Has, Has-filter}
use Rattle.catalogue.specs.Database.{RowFits, has_kind}
use Rattle.csv_load.specs.Fields.{cell, integer_in, names, short_text_in}
use Rattle.csv_load.specs.CsvRows.{Record, bad_column, column_of, fault_in, fault_of, fault_under, first_fault, first_some, in_file_order, is_bad, place_of, records_of, row_in, rows_in, rows_under, the_only, value_in}

-- a field's value has the column's kind
cell_kind : (longest : ℕ) (kind : ColType) (field : List ℕ) (v : Value) → cell longest kind field ≡ Some v → has_kind kind v ≡ true
cell_kind longest Integer field v e = by (integer_in field) e
  where
    by : (o : Option ℤ) → option_map Int o ≡ Some v → has_kind Integer v ≡ true
    by None h = cc
    by (Some n) h = let same : v ≡ Int n = cc in ap (has_kind Integer) same
cell_kind longest Words field v e = by (short_text_in longest field) e
  where
    by : (o : Option (List ℕ)) → option_map Str o ≡ Some v → has_kind Words v ≡ true
    by None h = cc
    by (Some t) h = let same : v ≡ Str t = cc in ap (has_kind Words) same

pub only_has : {X : Type 0} (xs : List X) (d x : X) → the_only xs ≡ Some d → Has xs x → x ≡ d
only_has [] d x e h = absurd h
only_has (y ∷ []) d x e (inl s) = let same : y ≡ d = cc in s ∙ same
only_has (y ∷ []) d x e (inr h) = absurd h
only_has (y ∷ z ∷ zs) d x e h = cc

-- the one field that a place stands for
record IsNamed (column : Column) (fields : Record) (first place : ℕ) : Type 0 where
  pub at : ℕ
  pub field : List ℕ
  pub is : place ≡ first + at
  pub there : slice_get fields at ≡ Some field
  pub names_it : names field column ≡ true

abbrev pub places : Column → ℕ → Record → List ℕ
places column first fields = map (λ p. p.0) (filter (λ p. names p.1 column) (enumerate_from first fields))

named : (column : Column) (fields : Record) (first place : ℕ) → the_only (places column first fields) ≡ Some place → IsNamed column fields first place
named column [] first place e = cc
named column (field ∷ fields) first place e = by (names field column) refl e (named column fields (first + 1) place)
  where
    further : IsNamed column fields (first + 1) place → IsNamed column (field ∷ fields) first place
    further n = record { at = suc n.at; field = n.field; is = omega (arith, n.is); there = n.there; names_it = n.names_it }

    here : names field column ≡ true → (rest : List ℕ) → the_only (first ∷ rest) ≡ Some place → IsNamed column (field ∷ fields) first place
    here t [] h = let same : first ≡ place = cc in record { at = 0; field = field; is = omega (arith, same); there = refl; names_it = t }
    here t (other ∷ others) h = cc

    by : (b : Bool) → names field column ≡ b
        → the_only (map (λ (p : ℕ × List ℕ). p.0) (cond b ((first, field) ∷ filter (λ p. names p.1 column) (enumerate_from (first + 1) fields))
        (filter (λ p. names p.1 column) (enumerate_from (first + 1) fields)))) ≡ Some place
        → (the_only (places column (first + 1) fields) ≡ Some place → IsNamed column fields (first + 1) place)
        → IsNamed column (field ∷ fields) first place
    by true t h rest = here t (places column (first + 1) fields) h
    by false t h rest = further (rest h)

module _ (longest : ℕ) (columns : List Column) where
  -- what a record has at a place of the header: a field that isn't bad in the column that the header names there
  record HasField (name : List ℕ) (fields : Record) (place : ℕ) : Type 0 where
    pub column : Column
    pub is_column : column_of columns name ≡ Some column
    pub field : List ℕ
    pub there : slice_get fields place ≡ Some field
    pub good : is_bad longest column field ≡ false

  abbrev all_known : Record → Bool
  all_known header = list_all (λ field. is_some (column_of columns field)) header

  abbrev HasFields : Record → Type 0
  HasFields header = (fields : Record) → all_known header ≡ true → length fields ≡ length (in_file_order columns header)
      → bad_column longest (in_file_order columns header) fields ≡ None
      → (place : ℕ) (name : List ℕ) → slice_get header place ≡ Some name → HasField name fields place

  field_at : (header fields : Record) → all_known header ≡ true → length fields ≡ length (in_file_order columns header)
      → bad_column longest (in_file_order columns header) fields ≡ None
      → (place : ℕ) (name : List ℕ) → slice_get header place ≡ Some name → HasField name fields place
  field_at [] fields known width good zero name e = cc
  field_at [] fields known width good (suc place) name e = cc
  field_at (title ∷ header) fields known width good place name e =
      by (column_of columns title) refl known fields width good place e
      (λ others k w g q n t. field_at header others k w g q n t)
    where
      next : (column : Column) (field : List ℕ) (fields : Record) (b : Bool) → column_of columns title ≡ Some column → is_bad longest column field ≡ b
          → all_known header ≡ true → length fields ≡ length (in_file_order columns header)
          → option_map (λ (p : Column × List ℕ). p.0) (cond b (Some (column, field)) (find (λ p. is_bad longest p.0 p.1) (zip (in_file_order columns header) fields))) ≡ None
          → (place : ℕ) → slice_get (title ∷ header) place ≡ Some name → HasFields header → HasField name (field ∷ fields) place
      next column field fields true is bad known width good place e others = cc
      next column field fields false is bad known width good zero e others =
          let same : title ≡ name = cc in
          record { column = column; is_column = ap (column_of columns) (sym same) ∙ is; field = field; there = refl; good = bad }
      next column field fields false is bad known width good (suc place) e others =
          let rest = others fields known width good place name e in
          record { column = rest.column; is_column = rest.is_column; field = rest.field; there = rest.there; good = rest.good }

      by : (o : Option Column) → column_of columns title ≡ o → (is_some o && all_known header) ≡ true
          → (fields : Record) → length fields ≡ length (cons_option o (in_file_order columns header))
          → bad_column longest (cons_option o (in_file_order columns header)) fields ≡ None
          → (place : ℕ) → slice_get (title ∷ header) place ≡ Some name → HasFields header → HasField name fields place
      by None is known fields width good place e others = cc
      by (Some column) is known [] width good place e others = absurd (omega (arith, width))
      by (Some column) is known (field ∷ fields) width good place e others =
          next column field fields (is_bad longest column field) is refl known (omega (arith, width)) good place e others

  module _ (header : Record) (known : all_known header ≡ true) where
    pub record HasValue (fields : Record) (column : Column) : Type 0 where
      pub value : Value
      pub is : value_in longest header fields column ≡ Some value
      pub kind : has_kind column.kind value ≡ true

    pub value_is : (fields : Record) → length fields ≡ length (in_file_order columns header)
        → bad_column longest (in_file_order columns header) fields ≡ None
        → (column : Column) → Has columns column → is_some (place_of header column) ≡ true → HasValue fields column
    value_is fields width good column has there = by (place_of header column) refl there
      where
        of_cell : (o : Option Value) (place : ℕ) (field : List ℕ) → place_of header column ≡ Some place → slice_get fields place ≡ Some field
            → cell longest column.kind field ≡ o → not (is_some o) ≡ false → HasValue fields column
        of_cell None place field p f c g = cc
        of_cell (Some value) place field p f c g = record {
          value = value;
          is = ap (λ q. option_and_then (cell longest column.kind) (option_and_then (slice_get fields) q)) p
              ∙ ap (option_and_then (cell longest column.kind)) f ∙ c;
          kind = cell_kind longest column.kind field value c;
        }

        by : (o : Option ℕ) → place_of header column ≡ o → is_some o ≡ true → HasValue fields column
        by None p t = cc
        by (Some place) p t =
            let n = named column header 0 place p in
            let at : place ≡ n.at = omega (arith, n.is) in
            let f = field_at header fields known width good n.at n.field n.there in
            let same : column ≡ f.column =
            only_has (filter (names n.field) columns) f.column column f.is_column (Has-filter (names n.field) columns column has n.names_it) in
            of_cell (cell longest column.kind f.field) place f.field p (ap (slice_get fields) at ∙ f.there) refl
            (ap (λ (d : Column). is_bad longest d f.field) same ∙ f.good)

    values_fit : (fields : Record) → length fields ≡ length (in_file_order columns header)
        → bad_column longest (in_file_order columns header) fields ≡ None
        → (some : List Column) → ((column : Column) → Has some column → Has columns column)
        → list_all (λ column. is_some (place_of header column)) some ≡ true → RowFits some (row_in longest some header fields)
    values_fit fields width good [] within there = record { width = refl; types = refl }
    values_fit fields width good (column ∷ some) within there =
        by (is_some (place_of header column)) refl there
        (values_fit fields width good some (λ other has. within other (inr has)))
      where
        by : (b : Bool) → is_some (place_of header column) ≡ b → (b && list_all (λ column. is_some (place_of header column)) some) ≡ true
            → (list_all (λ column. is_some (place_of header column)) some ≡ true → RowFits some (row_in longest some header fields))
            → RowFits (column ∷ some) (row_in longest (column ∷ some) header fields)
        by false is t others = cc
        by true is t others =
            let v = value_is fields width good column (within column (inl refl)) is in
            let rest = others t in
            rw (v.is) (record { width = ap suc rest.width; types = rw (v.kind) rest.types })

    record_fits : (nth : ℕ) (fields : Record) → list_all (λ column. is_some (place_of header column)) columns ≡ true
        → fault_in longest (in_file_order columns header) nth fields ≡ None → RowFits columns (row_in longest columns header fields)
    record_fits nth fields there e = by (length fields == length (in_file_order columns header)) refl e
      where
        none : (o : Option Column) → option_map (λ (column : Column). BadField nth column.name) o ≡ None → o ≡ None
        none None h = refl
        none (Some column) h = cc

        by : (b : Bool) → (length fields == length (in_file_order columns header)) ≡ b
            → cond b (option_map (λ (column : Column). BadField nth column.name) (bad_column longest (in_file_order columns header) fields))
            (Some (RecordWidth nth (length fields) (length (in_file_order columns header)))) ≡ None
            → RowFits columns (row_in longest columns header fields)
        by false t h = cc
        by true t h =
            values_fit fields (eqb-true (length fields) (length (in_file_order columns header)) t)
            (none (bad_column longest (in_file_order columns header) fields) h) columns (λ column has. has) there

    records_fit : list_all (λ column. is_some (place_of header column)) columns ≡ true
        → (nth : ℕ) (records : List Record) → first_some (λ p. fault_in longest (in_file_order columns header) p.0 p.1) (enumerate_from nth records) ≡ None
        → All (RowFits columns) (map (row_in longest columns header) records)
    records_fit there nth [] e = All-nil (RowFits columns)
    records_fit there nth (fields ∷ records) e =
        by (fault_in longest (in_file_order columns header) nth fields) refl e (records_fit there (nth + 1) records)
      where
        by : (o : Option Refusal) → fault_in longest (in_file_order columns header) nth fields ≡ o
            → option_map_or Some o (first_some (λ p. fault_in longest (in_file_order columns header) p.0 p.1) (enumerate_from (nth + 1) records)) ≡ None
            → (first_some (λ p. fault_in longest (in_file_order columns header) p.0 p.1) (enumerate_from (nth + 1) records) ≡ None
            → All (RowFits columns) (map (row_in longest columns header) records))
            → All (RowFits columns) (map (row_in longest columns header) (fields ∷ records))
        by (Some why) f h others = cc
        by None f h others =
            All-cons (RowFits columns) (row_in longest columns header fields) (map (row_in longest columns header) records)
            (record_fits nth fields there f) (others h)

  file_fits : (records : List Record) → first_fault longest columns records ≡ None → All (RowFits columns) (rows_under longest columns records)
  unfolding first_fault rows_under
  file_fits [] e = cc
  file_fits (header ∷ records) e =
      by (all_known header) (list_all (λ column. is_some (place_of header column)) columns) refl refl e
    where
      by : (k t : Bool) → all_known header ≡ k → list_all (λ column. is_some (place_of header column)) columns ≡ t
          → cond (k && t) (fault_under longest (in_file_order columns header) records) (Some HeaderMismatch) ≡ None
          → All (RowFits columns) (map (row_in longest columns header) records)
      by false t known there h = cc
      by true false known there h = cc
      by true true known there h = records_fit header known there 1 records h

  pub rows_fit : (text : List ℕ) (r : Result (List (List Value)) Fail) → IfOk r (λ rows. rows ≡ rows_in longest columns text)
      → IsRefusedAs r (fault_of longest columns text) → IfOk r (All (RowFits columns))
  rows_fit text (Ok rows) is none = rw is (file_fits (records_of text) none)
  rows_fit text (Err why) is none = tt
