-- The valuations before the first step of a guided block are those that `start` gives for each row of its guide.
use Rattle.std.proofs.Common.{◌≡◌, ℕ, true, false, List, [], ◌∷◌, ◌++◌, length, map, replicate, Some, inl, inr, refl, ap, sym, ◌∙◌, subst, arith}
use Rattle.std.specs.List.{filter, flat_map, zip, slice_set}
use Rattle.std.proofs.lemmas.List.{map-append, length-map}
use Rattle.beas_core.specs.declared.plan.Normal.{Normal}
use Rattle.beas_core.specs.Types.{Row, ClassSet, Binding, Bindings}
use Rattle.beas_core.specs.Order.{row_cmp, row_cmp_total}
use Rattle.beas_core.specs.Sets.{distinct}
use Rattle.beas_core.specs.Coverage.{with_classes, constant_classes, output_classes, start_classes, place_class}
use Rattle.beas_core.specs.Valuations.{starts, is_consistent, value_of, classes_in, valued_rows}
use Rattle.beas_core.proofs.Sets.{Has, Has-map, Has-from_map, Has-filter, Has-from_filter, Has-distinct, Has-from_distinct, distinct_same}
use Rattle.beas_core.proofs.ValueOrder.{row_cmp_tells}
use Rattle.beas_core.specs.Starts.{with_row, rows_of_start}
use Rattle.beas_core.proofs.MemberTests.{Has-flat_map, Has-from_flat_map}

with-append : (xs ys : List ℕ) (set : ClassSet) → with_classes set (xs ++ ys) ≡ with_classes (with_classes set xs) ys
with-append [] ys set = refl
with-append (x ∷ xs) ys set = with-append xs ys (slice_set set x true)

keys-zip : (cs : List ℕ) (row : Row) → length row ≡ length cs → map (λ b. b.0) (zip cs row) ≡ cs
keys-zip [] row e = refl
keys-zip (c ∷ cs) [] e = absurd (omega (arith, e))
keys-zip (c ∷ cs) (v ∷ row) e = ap (λ ks. c ∷ ks) (keys-zip cs row (omega (arith, e)))

module _ (normal : Normal) where
  pub with_row_classes : (row : Row) → length row ≡ length normal.output → constant_classes (with_row normal row) ≡ start_classes normal true
  with_row_classes row wide =
      let keys = map-append (λ (b : Binding). b.0) normal.constants (zip (output_classes normal) row)
      ∙ ap (λ ks. map (λ (b : Binding). b.0) normal.constants ++ ks)
      (keys-zip (output_classes normal) row (wide ∙ sym (length-map normal.output (place_class normal)))) in
      ap (with_classes (replicate normal.count false)) keys
      ∙ with-append (map (λ (b : Binding). b.0) normal.constants) (output_classes normal) (replicate normal.count false)

  abbrev one_start : Row → Bindings
  one_start row = normal.constants ++ zip (output_classes normal) row

  one_row : (row : Row) → length row ≡ length normal.output → rows_of_start normal row ≡ valued_rows normal (start_classes normal true) (one_start row ∷ [])
  one_row row wide = ap (λ set. valued_rows normal set (one_start row ∷ [])) (with_row_classes row wide)

  abbrev taken : ClassSet → List Bindings → List Row
  taken set found = map (λ w. map (value_of w) (classes_in set)) (filter (is_consistent normal set) found)

  pub guided_starts : (rows : List Row) → ((row : Row) → Has rows row → length row ≡ length normal.output)
      → valued_rows normal (start_classes normal true) (starts normal (Some rows)) ≡ distinct row_cmp (flat_map (rows_of_start normal) rows)
  guided_starts rows wide = distinct_same row_cmp_total row_cmp_tells (taken set (map one_start rows)) (flat_map (rows_of_start normal) rows) (λ y. (there y, back y))
    where
      set : ClassSet
      set = start_classes normal true

      there : (y : Row) → Has (taken set (map one_start rows)) y → Has (flat_map (rows_of_start normal) rows) y
      there y h =
          let m = Has-from_map (λ w. map (value_of w) (classes_in set)) (filter (is_consistent normal set) (map one_start rows)) y h in
          let f = Has-from_filter (is_consistent normal set) (map one_start rows) m.0 m.1 in
          let r = Has-from_map one_start rows m.0 f.0 in
          let one = Has-distinct row_cmp_total row_cmp_tells (taken set (one_start r.0 ∷ [])) y
          (subst (Has (taken set (one_start r.0 ∷ []))) (sym m.2) (Has-map (λ w. map (value_of w) (classes_in set))
          (filter (is_consistent normal set) (one_start r.0 ∷ [])) m.0 (Has-filter (is_consistent normal set) (one_start r.0 ∷ []) m.0 (inl r.2) f.1))) in
          Has-flat_map (rows_of_start normal) rows r.0 y r.1 (subst (λ ys. Has ys y) (sym (one_row r.0 (wide r.0 r.1))) one)

      back : (y : Row) → Has (flat_map (rows_of_start normal) rows) y → Has (taken set (map one_start rows)) y
      back y h =
          let r = Has-from_flat_map (rows_of_start normal) rows y h in
          let one = Has-from_distinct row_cmp_total row_cmp_tells (taken set (one_start r.0 ∷ [])) y
          (subst (λ ys. Has ys y) (one_row r.0 (wide r.0 r.1)) r.2) in
          let m = Has-from_map (λ w. map (value_of w) (classes_in set)) (filter (is_consistent normal set) (one_start r.0 ∷ [])) y one in
          let f = Has-from_filter (is_consistent normal set) (one_start r.0 ∷ []) m.0 m.1 in
          let same : m.0 ≡ one_start r.0 = elim f.0 [ inl e ↦ e | inr n ↦ absurd n ] in
          subst (Has (taken set (map one_start rows))) (sym m.2) (Has-map (λ w. map (value_of w) (classes_in set))
          (filter (is_consistent normal set) (map one_start rows)) m.0 (Has-filter (is_consistent normal set) (map one_start rows) m.0
          (subst (Has (map one_start rows)) (sym same) (Has-map one_start rows r.0 r.1)) f.1))
