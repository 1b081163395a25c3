-- A record as wide as the header has a value in each slot exactly where none of its fields is bad.
use Rattle.std.proofs.Common.{Bor, ◌≡◌, ◌∙◌, ◌+◌, ℕ, zero, suc, Bool, true, false, cond, not, ◌&&◌, List, [], ◌∷◌, length, map, Option, Some, None, refl, ap, sym, subst, arith, slice_get, inl, inr}
use Rattle.std.specs.List.{cons_option, enumerate_from, filter, find, list_all, zip}
use Rattle.std.specs.Option.{is_some, option_and_then, option_map}
use Rattle.std.proofs.lemmas.List.{length-map}
use Rattle.beas_core.specs.declared.schema.Column.{Column}
use Rattle.beas_core.proofs.Sets.{Has, Has-from_filter}
use Rattle.csv_load.specs.declared.header.Layout.{Layout}
use Rattle.csv_load.specs.Fields.{cell, names}
use Rattle.csv_load.specs.CsvRows.{Record, bad_column, column_of, in_file_order, is_bad, is_header, place_of, the_only, value_in}
use Rattle.csv_load.specs.Layouts.{IsLayout, SlotsTell, has_values, slots_of}
use Rattle.csv_load.proofs.FitFacts.{only_has, places, value_is}

all_have : {X : Type 0} (p : X → Bool) (xs : List X) (x : X) → list_all p xs ≡ true → Has xs x → p x ≡ true
all_have p [] x all h = absurd h
all_have {X} p (y ∷ ys) x all h = by (p y) refl all h (λ a g. all_have p ys x a g)
  where
    by : (b : Bool) → p y ≡ b → (b && list_all p ys) ≡ true → Has (y ∷ ys) x → (list_all p ys ≡ true → Has ys x → p x ≡ true) → p x ≡ true
    by true e all (inl s) rest = ap p s ∙ e
    by true e all (inr g) rest = rest all g
    by false e all g rest = cc

all_from_each : {X : Type 0} (p : X → Bool) (xs : List X) → ((x : X) → Has xs x → p x ≡ true) → list_all p xs ≡ true
all_from_each p [] each = refl
all_from_each p (x ∷ xs) each =
    ap (λ b. b && list_all p xs) (each x (inl refl)) ∙ all_from_each p xs (λ y h. each y (inr h))

only_is : {X : Type 0} (xs : List X) (x : X) → the_only xs ≡ Some x → Has xs x
only_is [] x e = cc
only_is (y ∷ []) x e = let same : y ≡ x = cc in inl (sym same)
only_is (y ∷ z ∷ zs) x e = cc

-- the place of a field that names a column is among the column's places
place_has : (column : Column) (fields : Record) (first place : ℕ) (field : List ℕ) → slice_get fields place ≡ Some field → names field column ≡ true
    → Has (places column first fields) (first + place)
place_has column [] first zero field e t = cc
place_has column [] first (suc place) field e t = cc
place_has column (title ∷ fields) first place field e t =
    by (names title column) refl place e (λ n g. place_has column fields (first + 1) n field g t)
  where
    by : (b : Bool) → names title column ≡ b → (place : ℕ) → slice_get (title ∷ fields) place ≡ Some field
        → ((n : ℕ) → slice_get fields n ≡ Some field → Has (places column (first + 1) fields) (first + 1 + n))
        → Has (map (λ (p : ℕ × List ℕ). p.0) (cond b ((first, title) ∷ filter (λ p. names p.1 column) (enumerate_from (first + 1) fields))
        (filter (λ p. names p.1 column) (enumerate_from (first + 1) fields)))) (first + place)
    by true n zero e rest = inl (omega arith)
    by false n zero e rest = let same : title ≡ field = cc in let other = ap (λ f. names f column) same in cc
    by true n (suc place) e rest =
        let further : first + 1 + place ≡ first + suc place = omega arith in inr (subst (Has (places column (first + 1) fields)) further (rest place e))
    by false n (suc place) e rest =
        let further : first + 1 + place ≡ first + suc place = omega arith in subst (Has (places column (first + 1) fields)) further (rest place e)

-- the slots give what the columns do
values_by_slots : (longest : ℕ) (header fields : Record) (some : List Column) → list_all (λ column. is_some (place_of header column)) some ≡ true
    → has_values longest (slots_of some header) fields ≡ list_all (λ column. is_some (value_in longest header fields column)) some
values_by_slots longest header fields [] there = refl
values_by_slots longest header fields (column ∷ some) there =
    by (place_of header column) there (λ t. values_by_slots longest header fields some t)
  where
    by : (o : Option ℕ) → (is_some o && list_all (λ column. is_some (place_of header column)) some) ≡ true
        → (list_all (λ column. is_some (place_of header column)) some ≡ true
        → has_values longest (slots_of some header) fields ≡ list_all (λ column. is_some (value_in longest header fields column)) some)
        → has_values longest (cons_option (option_map (λ place. record { position = place; kind = column.kind }) o) (slots_of some header)) fields
        ≡ (is_some (option_and_then (cell longest column.kind) (option_and_then (slice_get fields) o))
        && list_all (λ column. is_some (value_in longest header fields column)) some)
    by None there rest = cc
    by (Some place) there rest = ap (λ b. is_some (option_and_then (cell longest column.kind) (slice_get fields place)) && b) (rest there)

module _ (longest : ℕ) (columns : List Column) where
  abbrev all_known : Record → Bool
  all_known header = list_all (λ field. is_some (column_of columns field)) header

  -- no field is bad in the column that the header names at its place
  abbrev AllGood : Record → Record → Type 0
  AllGood header fields = (place : ℕ) (name field : List ℕ) (column : Column) → slice_get header place ≡ Some name → slice_get fields place ≡ Some field
      → column_of columns name ≡ Some column → is_bad longest column field ≡ false

  none_bad : (header fields : Record) → all_known header ≡ true → AllGood header fields → bad_column longest (in_file_order columns header) fields ≡ None
  none_bad [] fields known good = refl
  none_bad (title ∷ header) fields known good = by (column_of columns title) refl known fields good (λ others k g. none_bad header others k g)
    where
      by : (o : Option Column) → column_of columns title ≡ o → (is_some o && all_known header) ≡ true → (fields : Record) → AllGood (title ∷ header) fields
          → ((others : Record) → all_known header ≡ true → AllGood header others → bad_column longest (in_file_order columns header) others ≡ None)
          → bad_column longest (cons_option o (in_file_order columns header)) fields ≡ None
      by None is known fields good rest = cc
      by (Some column) is known [] good rest = refl
      by (Some column) is known (field ∷ fields) good rest =
          ap (λ b. option_map (λ (p : Column × List ℕ). p.0)
          (cond b (Some (column, field)) (find (λ p. is_bad longest p.0 p.1) (zip (in_file_order columns header) fields)))) (good zero title field column refl refl is)
          ∙ rest fields known (λ place name other c e f i. good (suc place) name other c e f i)

  module _ (header fields : Record) where
    abbrev all_valued : Bool
    all_valued = list_all (λ column. is_some (value_in longest header fields column)) columns

    all_good : all_valued ≡ true → AllGood header fields
    all_good valued place name field column e f is = by (place_of header column) refl (all_have (λ c. is_some (value_in longest header fields c)) columns column valued has.0)
      where
        has : (Has columns column) × (names name column ≡ true)
        has = Has-from_filter (names name) columns column (only_is (filter (names name) columns) column is)

        by : (o : Option ℕ) → place_of header column ≡ o → is_some (option_and_then (cell longest column.kind) (option_and_then (slice_get fields) o)) ≡ true
            → is_bad longest column field ≡ false
        by None p v = cc
        by (Some n) p v =
            let same : place ≡ n = omega (arith, only_has (places column 0 header) n (0 + place) p (place_has column header 0 place name e has.1)) in
            let got : slice_get fields n ≡ Some field = ap (slice_get fields) (sym same) ∙ f in
            ap not (sym (ap (λ o. is_some (option_and_then (cell longest column.kind) o)) got) ∙ v)

    all_are_valued : all_known header ≡ true → list_all (λ column. is_some (place_of header column)) columns ≡ true
        → length fields ≡ length (in_file_order columns header) → bad_column longest (in_file_order columns header) fields ≡ None → all_valued ≡ true
    all_are_valued known there width good =
        all_from_each (λ column. is_some (value_in longest header fields column)) columns
        (λ column has. ap is_some (value_is longest columns header known fields width good column has
        (all_have (λ c. is_some (place_of header c)) columns column there has)).is)

    slots_tell : is_header columns header ≡ true → length fields ≡ length (in_file_order columns header)
        → has_values longest (slots_of columns header) fields ≡ not (is_some (bad_column longest (in_file_order columns header) fields))
    slots_tell fits width =
        by (all_known header) (list_all (λ column. is_some (place_of header column)) columns) refl refl fits
      where
        told : all_known header ≡ true → list_all (λ column. is_some (place_of header column)) columns ≡ true
            → (b : Bool) → all_valued ≡ b → (o : Option Column) → bad_column longest (in_file_order columns header) fields ≡ o → b ≡ not (is_some o)
        told known there true v None e = refl
        told known there true v (Some column) e = let none = none_bad header fields known (all_good v) in cc
        told known there false v None e = let valued = all_are_valued known there width e in cc
        told known there false v (Some column) e = refl

        by : (k t : Bool) → all_known header ≡ k → list_all (λ column. is_some (place_of header column)) columns ≡ t → (k && t) ≡ true
            → has_values longest (slots_of columns header) fields ≡ not (is_some (bad_column longest (in_file_order columns header) fields))
        by false t known there h = cc
        by true false known there h = cc
        by true true known there h =
            values_by_slots longest header fields columns there
            ∙ told known there all_valued refl (bad_column longest (in_file_order columns header) fields) refl

  pub layout_tells : (header : Record) (layout : Layout) → IsLayout columns header layout → SlotsTell longest layout
  layout_tells header layout l fields width =
      let mapped = length-map layout.in_file.items (λ (column : Bor Column). column.now) in
      ap (λ slots. has_values longest slots fields) l.slots
      ∙ slots_tell header fields l.fits (width ∙ sym mapped ∙ ap length l.in_file)
      ∙ ap (λ cs. not (is_some (bad_column longest cs fields))) (sym l.in_file)
