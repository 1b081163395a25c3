-- The rows of a file by its layout, and the first column whose field is bad.
use Rattle.std.proofs.Common.{Bor, ◌≡◌, ◌≤◌, ◌<◌, ◌+◌, ℕ, zero, suc, Bool, true, false, cond, not, List, [], ◌∷◌, length, drop, get_or, map, Option, Some, None, refl, ap, sym, ◌∙◌, arith, slice_get, add-one}
use Rattle.std.specs.List.{filter_map, find, zip, cons_option}
use Rattle.std.specs.Option.{is_some, option_and_then, option_map, option_map_or}
use Rattle.std.proofs.lemmas.List.{length-map}
use Rattle.beas_core.specs.declared.schema.Column.{Column}
use Rattle.beas_core.specs.declared.refusal.Refusal.TheVariants.{HeaderMismatch}
use Rattle.csv_load.specs.declared.header.Layout.{Layout}
use Rattle.csv_load.specs.Fields.{cell}
use Rattle.csv_load.specs.CsvRows.{Record, bad_column, column_of, fault_of, fault_under, first_fault, in_file_order, is_header, place_of, records_of, row_in, rows_in, rows_under}
use Rattle.csv_load.specs.Layouts.{IsLayout, row_of_slots, slots_of}
use Rattle.csv_load.specs.Reading.{weight}
use Rattle.csv_load.proofs.HeaderFacts.{drop_got}

mapped_suc : {A B : Type 0} (v : A → B) (xs : List A) (i : ℕ) (x : A) → i < length xs → x ≡ get_or xs i x → drop i (map v xs) ≡ v x ∷ drop (suc i) (map v xs)
mapped_suc v [] i x l e = absurd (omega (arith, l))
mapped_suc v (y ∷ ys) zero x l e = ap (λ z. v z ∷ map v ys) (sym e)
mapped_suc v (y ∷ ys) (suc i) x l e = mapped_suc v ys i x (omega arith) e

pub mapped_at : {A B : Type 0} (v : A → B) (xs : List A) (i : ℕ) (x : A) → i < length xs → x ≡ get_or xs i x → drop i (map v xs) ≡ v x ∷ drop (i + 1) (map v xs)
mapped_at v xs i x l e = mapped_suc v xs i x l e ∙ ap (λ n. v x ∷ drop n (map v xs)) (sym (add-one i))

none_left : {X : Type 0} (xs : List X) (i : ℕ) → slice_get xs i ≡ None → (drop i xs ≡ []) × (drop (suc i) xs ≡ [])
none_left [] zero e = (refl, refl)
none_left [] (suc i) e = (refl, refl)
none_left (x ∷ xs) zero e = cc
none_left (x ∷ xs) (suc i) e = none_left xs i e

zip-nil : (columns : List Column) → zip columns (let none : List (List ℕ) = [] in none) ≡ []
zip-nil [] = refl
zip-nil (c ∷ cs) = refl

module _ (longest : ℕ) (columns : List Column) (fields : Record) (i : ℕ) (column : Column) (here : drop i columns ≡ column ∷ drop (i + 1) columns) where
  abbrev is_bad : List ℕ → Bool
  is_bad field = not (is_some (cell longest column.kind field))

  abbrev found : List (Column × List ℕ) → Option Column
  found pairs = option_map (λ p. p.0) (find (λ p. not (is_some (cell longest p.0.kind p.1))) pairs)

  abbrev Bad : Bool → Type 0
  Bad true = bad_column longest (drop i columns) (drop i fields) ≡ Some column
  Bad false = bad_column longest (drop (i + 1) columns) (drop (i + 1) fields) ≡ bad_column longest (drop i columns) (drop i fields)

  pub bad_at : (b : Bool) → option_map_or is_bad (slice_get fields i) false ≡ b → Bad b
  bad_at b h = by (slice_get fields i) refl b h
    where
      there : (field : List ℕ) → slice_get fields i ≡ Some field
          → zip (drop i columns) (drop i fields) ≡ (column, field) ∷ zip (drop (i + 1) columns) (drop (i + 1) fields)
      there field e = ap (λ cs. zip cs (drop i fields)) here ∙ ap (zip (column ∷ drop (i + 1) columns)) (drop_got fields i field e)

      by : (o : Option (List ℕ)) → slice_get fields i ≡ o → (b : Bool) → option_map_or is_bad o false ≡ b → Bad b
      by None e true h = cc
      by None e false h =
          let none = none_left fields i e in
          let next : drop (i + 1) fields ≡ [] = ap (λ n. drop n fields) (add-one i) ∙ none.1 in
          ap (λ xs. found (zip (drop (i + 1) columns) xs)) next ∙ ap found (zip-nil (drop (i + 1) columns))
          ∙ sym (ap (λ xs. found (zip (drop i columns) xs)) none.0 ∙ ap found (zip-nil (drop i columns)))
      by (Some field) e true h =
          ap found (there field e)
          ∙ ap (λ t. option_map (λ (p : Column × List ℕ). p.0)
          (cond t (Some (column, field)) (find (λ p. not (is_some (cell longest p.0.kind p.1))) (zip (drop (i + 1) columns) (drop (i + 1) fields))))) h
      by (Some field) e false h = sym (
          ap found (there field e)
          ∙ ap (λ t. option_map (λ (p : Column × List ℕ). p.0)
          (cond t (Some (column, field)) (find (λ p. not (is_some (cell longest p.0.kind p.1))) (zip (drop (i + 1) columns) (drop (i + 1) fields))))) h)

-- a row by its slots
row_by_slots : (longest : ℕ) (columns : List Column) (header fields : Record)
    → row_of_slots longest (slots_of columns header) fields ≡ row_in longest columns header fields
row_by_slots longest [] header fields = refl
row_by_slots longest (c ∷ cs) header fields = by (place_of header c) (row_by_slots longest cs header fields)
  where
    by : (o : Option ℕ) → row_of_slots longest (slots_of cs header) fields ≡ row_in longest cs header fields
        → row_of_slots longest (cons_option (option_map (λ place. record { position = place; kind = c.kind }) o) (slots_of cs header)) fields
        ≡ cons_option (option_and_then (cell longest c.kind) (option_and_then (slice_get fields) o)) (row_in longest cs header fields)
    by None e = e
    by (Some place) e = ap (cons_option (option_and_then (cell longest c.kind) (slice_get fields place))) e

rows_by_slots : (longest : ℕ) (columns : List Column) (header : Record) (records : List Record)
    → map (row_of_slots longest (slots_of columns header)) records ≡ map (row_in longest columns header) records
rows_by_slots longest columns header [] = refl
rows_by_slots longest columns header (r ∷ rs) =
    let a = row_by_slots longest columns header r in
    let b = rows_by_slots longest columns header rs in
    cc

length-filter_map-le : {X Y : Type 0} (f : X → Option Y) (xs : List X) → length (filter_map f xs) ≤ length xs
length-filter_map-le f [] = omega arith
length-filter_map-le {X} {Y} f (x ∷ xs) = by (f x) (length-filter_map-le f xs)
  where
    by : (o : Option Y) → length (filter_map f xs) ≤ length xs → length (cons_option o (filter_map f xs)) ≤ length (x ∷ xs)
    by None h = omega arith
    by (Some y) h = omega arith

-- a file
pub no_header : (longest : ℕ) (columns : List Column) (text : List ℕ) → records_of text ≡ [] → fault_of longest columns text ≡ Some HeaderMismatch
unfolding first_fault
no_header longest columns text e = ap (first_fault longest columns) e

module _ (longest : ℕ) (columns : List Column) (text : List ℕ) (header : Record) (records : List Record) (all : records_of text ≡ header ∷ records) where
  pub other_header : is_header columns header ≡ false → fault_of longest columns text ≡ Some HeaderMismatch
  unfolding first_fault
  other_header n =
      ap (first_fault longest columns) all
      ∙ ap (λ b. cond b (fault_under longest (in_file_order columns header) records) (Some HeaderMismatch)) n

  pub fault_is : (layout : Layout) → IsLayout columns header layout
      → fault_of longest columns text ≡ fault_under longest (map (λ column. column.now) layout.in_file.items) records
  unfolding first_fault
  fault_is layout l =
      ap (first_fault longest columns) all
      ∙ ap (λ b. cond b (fault_under longest (in_file_order columns header) records) (Some HeaderMismatch)) l.fits
      ∙ ap (λ cs. fault_under longest cs records) (sym l.in_file)

  pub rows_are : (layout : Layout) → IsLayout columns header layout → rows_in longest columns text ≡ map (row_of_slots longest layout.slots.items) records
  unfolding rows_under
  rows_are layout l =
      ap (rows_under longest columns) all
      ∙ sym (rows_by_slots longest columns header records)
      ∙ ap (λ slots. map (row_of_slots longest slots) records) (sym l.slots)

  pub room : (layout : Layout) → IsLayout columns header layout → weight (header ∷ records) ≤ length text + 1
      → length layout.in_file.items + weight records ≤ length text + 1
  room layout l w =
      let few = length-filter_map-le (column_of columns) header in
      let same = ap length l.in_file in
      let mapped = length-map layout.in_file.items (λ (column : Bor Column). column.now) in
      omega (arith, w, few, same, mapped)
